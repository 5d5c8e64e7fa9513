use Rattle.test_words.specs.Printed.{GoesOn}
use Rattle.test_words.proofs.read.push_times.Given as goal

abbrev pub invariant-loop : goal.invariant-loop
invariant-loop l = GoesOn l.fn.bytes.items l.bytes.items
