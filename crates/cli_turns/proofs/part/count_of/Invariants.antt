use Rattle.std.proofs.Common.{◌≡◌, ◌≤◌}
use Rattle.cli_commands.specs.Lines.{lines_in}
use Rattle.cli_turns.specs.Part.{left_from}
use Rattle.cli_turns.proofs.part.count_of.Given as goal

abbrev pub invariant-loop-line : goal.invariant-loop-line
invariant-loop-line l = record { few : l.left ≤ l.most; whole : left_from l.left l.line-iterator ≡ left_from l.most (lines_in l.fn.text) }
