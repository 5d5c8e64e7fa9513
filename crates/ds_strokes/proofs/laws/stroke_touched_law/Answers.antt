use Rattle.ds_strokes.proofs.TouchLaws.{touched_law}
use Rattle.ds_strokes.proofs.laws.stroke_touched_law.Goals as goal

pub returns : goal.returns
returns c = touched_law
