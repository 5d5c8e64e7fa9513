use Rattle.scr_check.proofs.BindLaw.{binds_exactly}
use Rattle.scr_check.proofs.laws.bind_law.Goals as goal

pub returns : goal.returns
returns c = binds_exactly
