use Rattle.ds_keys.proofs.KeepLaws.{key_keeps}
use Rattle.ds_keys.proofs.laws.keep_law.Goals as goal

pub returns : goal.returns
returns c = key_keeps
