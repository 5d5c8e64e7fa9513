use Rattle.std.proofs.Common.{◌≡◌, ℕ, ◌<◌, ◌+◌, true, get_or}
use Rattle.ds_codec.specs.Character.{is_text}
use Rattle.ds_codec.proofs.front.text_length.Given as goal

abbrev pub invariant-loop-i : goal.invariant-loop-i
invariant-loop-i l = (k : ℕ) → k < l.passed + l.i → is_text (get_or l.bytes k 0) ≡ true
