use Rattle.std.proofs.Common.{string_bytes}
use Rattle.test_words.specs.Printed.{GoesOn}
use Rattle.test_words.proofs.printed.push_bytes.Given as goal

abbrev pub invariant-loop-byte : goal.invariant-loop-byte
invariant-loop-byte l = GoesOn (string_bytes l.fn.out) (string_bytes l.out)
