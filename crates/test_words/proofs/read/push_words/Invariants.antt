use Rattle.test_words.specs.Printed.{GoesOn}
use Rattle.test_words.proofs.read.push_words.Given as goal

abbrev pub invariant-loop-word : goal.invariant-loop-word
invariant-loop-word l = GoesOn l.fn.bytes.items l.bytes.items
