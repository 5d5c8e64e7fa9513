use Rattle.ds_strokes.proofs.StrokeLaws.{quiet_strokes_keep}
use Rattle.ds_strokes.proofs.laws.strokes_keep_law.Goals as goal

pub returns : goal.returns
returns c = quiet_strokes_keep
