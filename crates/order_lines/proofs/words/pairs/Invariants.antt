use Rattle.std.proofs.Common.{◌≡◌, length}
use Rattle.order_lines.specs.Words.{pairs_told}
use Rattle.order_lines.proofs.Pairs.{before_pairs}
use Rattle.order_lines.proofs.words.pairs.Given as goal

abbrev pub invariant-loop-rest : goal.invariant-loop-rest
invariant-loop-rest l = before_pairs l.bytes.items (pairs_told l.rest) ≡ pairs_told l.words

abbrev pub decreases-loop-rest : goal.decreases-loop-rest
decreases-loop-rest l = length l.rest
