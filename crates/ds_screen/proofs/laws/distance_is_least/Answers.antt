use Rattle.ds_screen.proofs.GovernLaws.{distance_least}
use Rattle.ds_screen.proofs.laws.distance_is_least.Goals as goal

pub returns : goal.returns
returns c = distance_least
