use Rattle.cli_commands.proofs.OwnStrokes.{own_strokes_leave, own_strokes_are_promised}
use Rattle.cli_commands.proofs.law.own_strokes_law.Goals as goal

pub returns : goal.returns
returns c = record { strokes = own_strokes_leave; promised = own_strokes_are_promised }
