use Rattle.ds_screen.proofs.OpenLaws.{opens_exactly}
use Rattle.ds_screen.proofs.laws.open_is_unprotected.Goals as goal

pub returns : goal.returns
returns c = opens_exactly
