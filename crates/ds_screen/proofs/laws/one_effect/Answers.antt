use Rattle.ds_screen.proofs.EffectLaws.{one_effect}
use Rattle.ds_screen.proofs.laws.one_effect.Goals as goal

pub returns : goal.returns
returns c = one_effect
