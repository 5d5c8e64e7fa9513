use Rattle.std.proofs.Common.{◌≡◌, ◌++◌}
use Rattle.cli_turns.specs.Part.{shown_from, records_up_to}
use Rattle.cli_turns.proofs.part.records_up_to.Given as goal

abbrev pub invariant-loop-line : goal.invariant-loop-line
invariant-loop-line l = l.out.items ++ shown_from l.left l.line-iterator ≡ records_up_to l.fn.turns l.fn.text
