use Rattle.std.proofs.Common.{IsOk, All}
use Rattle.test_words.proofs.script.print_differences.Given as goal

abbrev pub invariant-loop-line : goal.invariant-loop-line
invariant-loop-line g l =
    (goal.iterator-loop-line g).can_next l.line-iterator ×
    (goal.iterator-loop-line g).is_finite l.line-iterator ×
    All IsOk l.yielded
