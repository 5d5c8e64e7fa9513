use Rattle.std.proofs.Common.{string_bytes}
use Rattle.test_words.specs.Printed.{GoesOn}
use Rattle.test_words.proofs.printed.push_letter.Given as goal

abbrev pub invariant-loop : goal.invariant-loop
invariant-loop l = GoesOn (string_bytes l.fn.out) (string_bytes l.out)
