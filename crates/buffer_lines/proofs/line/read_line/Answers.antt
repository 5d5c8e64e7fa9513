use Rattle.std.proofs.Common.{sym, subst}
use Rattle.buffer_lines.specs.Left.{IsHeldLine}
use Rattle.buffer_lines.proofs.HeldRows.{line_held}
use Rattle.buffer_lines.proofs.line.read_line.Goals as goal

pub returns-clause-held : goal.returns-clause-held
returns-clause-held c = subst IsHeldLine (sym c.in_ok-told.ensures) (line_held c.args.line.now)
