use Rattle.std.proofs.Common.{string_bytes}
use Rattle.test_words.specs.Printed.{GoesOn}
use Rattle.test_words.proofs.printed.push_letters.Given as goal

abbrev pub invariant-loop-letter : goal.invariant-loop-letter
invariant-loop-letter l = GoesOn (string_bytes l.fn.out) (string_bytes l.out)
