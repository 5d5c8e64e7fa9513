use Rattle.std.proofs.Common.{◌≡◌, ◌+◌, length}
use Rattle.cli_reasons.specs.Nearest.{shared_front}
use Rattle.cli_reasons.proofs.near.shared_front.Given as goal

-- what is shared so far, and what is shared of the rests
abbrev pub invariant-loop-left : goal.invariant-loop-left
invariant-loop-left l = record {
  counted : shared_front l.a l.b ≡ l.count + shared_front l.left l.right;
  inside : l.count + length l.left ≡ length l.a;
}

abbrev pub decreases-loop-left : goal.decreases-loop-left
decreases-loop-left l = length l.left
