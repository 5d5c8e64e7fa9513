use Rattle.ds_keys.proofs.KeepLaws.{quiet_keys_keep}
use Rattle.ds_keys.proofs.laws.quiet_keep_law.Goals as goal

pub returns : goal.returns
returns c = quiet_keys_keep
