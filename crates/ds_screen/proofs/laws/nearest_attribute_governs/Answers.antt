use Rattle.ds_screen.proofs.GovernLaws.{governs_exactly}
use Rattle.ds_screen.proofs.laws.nearest_attribute_governs.Goals as goal

pub returns : goal.returns
returns c = governs_exactly
