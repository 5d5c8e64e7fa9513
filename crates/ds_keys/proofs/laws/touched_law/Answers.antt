use Rattle.ds_keys.proofs.TouchLaws.{touched_law}
use Rattle.ds_keys.proofs.laws.touched_law.Goals as goal

pub returns : goal.returns
returns c = touched_law
