use Rattle.std.proofs.Common.{◌≡◌, ◌++◌}
use Rattle.cli_turns.specs.Part.{own_from, records_of}
use Rattle.cli_turns.proofs.part.records_of.Given as goal

abbrev pub invariant-loop-line : goal.invariant-loop-line
invariant-loop-line l = l.out.items ++ own_from l.turn l.at l.line-iterator ≡ records_of l.fn.turn l.fn.text
