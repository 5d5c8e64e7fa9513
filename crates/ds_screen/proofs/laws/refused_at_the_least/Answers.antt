use Rattle.ds_screen.proofs.EffectLaws.{stops_at_least}
use Rattle.ds_screen.proofs.laws.refused_at_the_least.Goals as goal

pub returns : goal.returns
returns c = stops_at_least
