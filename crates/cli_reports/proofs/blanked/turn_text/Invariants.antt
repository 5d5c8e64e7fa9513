use Rattle.std.proofs.Common.{◌≡◌, ◌++◌}
use Rattle.cli_reports.specs.Blanked.{shown_from, turn_text}
use Rattle.cli_reports.proofs.blanked.turn_text.Given as goal

abbrev pub invariant-loop-line : goal.invariant-loop-line
invariant-loop-line l = l.out.items ++ shown_from l.kept l.left l.line-iterator ≡ turn_text l.kept l.fn.turn l.fn.text
