use Rattle.ds_keys.proofs.ShapeLaws.{key_keeps_shape}
use Rattle.ds_keys.proofs.laws.shape_law.Goals as goal

pub returns : goal.returns
returns c = key_keeps_shape
