use Rattle.ds_strokes.proofs.StrokeLaws.{stroke_keeps}
use Rattle.ds_strokes.proofs.laws.stroke_keep_law.Goals as goal

pub returns : goal.returns
returns c = stroke_keeps
