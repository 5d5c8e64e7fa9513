use Rattle.std.proofs.Common.{◌≡◌, ℕ, ◌<◌, ◌≤◌, length, true, get_or, ◌-◌}
use Rattle.ds_codec.specs.Character.{is_text}
use Rattle.ds_codec.proofs.front.graphic_length.Given as goal

abbrev pub invariant-loads : goal.invariant-loads
invariant-loads l = (l.passed ≤ length l.bytes) × ((k : ℕ) → k < l.passed → is_text (get_or l.bytes k 0) ≡ true)

abbrev pub decreases-loads : goal.decreases-loads
decreases-loads l = length l.bytes - l.passed
