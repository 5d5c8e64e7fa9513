use Rattle.std.proofs.Common.{sym, subst}
use Rattle.buffer_lines.specs.Left.{LeavesRows}
use Rattle.buffer_lines.specs.Line.{line_seen}
use Rattle.buffer_lines.specs.Screen.{open_seen}
use Rattle.buffer_lines.proofs.LeftRows.{step_left}
use Rattle.buffer_lines.proofs.screen.Open.take.Goals as goal

pub returns-clause-leaves : goal.returns-clause-leaves
returns-clause-leaves c laid held =
    subst (λ z. LeavesRows (open_seen c.args.self.now) (line_seen c.args.line) z) (sym c.in_ok-step.ensures)
    (step_left (open_seen c.args.self.now) (line_seen c.args.line) laid held)
