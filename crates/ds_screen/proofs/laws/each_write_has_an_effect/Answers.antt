use Rattle.ds_screen.proofs.EffectLaws.{effect_exactly}
use Rattle.ds_screen.proofs.laws.each_write_has_an_effect.Goals as goal

pub returns : goal.returns
returns c = effect_exactly
