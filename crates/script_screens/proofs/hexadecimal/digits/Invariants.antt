use Rattle.std.proofs.Common.{◌≡◌, ℕ, ◌<◌, true, get_or}
use Rattle.script_screens.specs.Pieces.{is_hex}
use Rattle.script_screens.proofs.hexadecimal.digits.Given as goal

abbrev pub invariant-loop-i : goal.invariant-loop-i
invariant-loop-i l = (k : ℕ) → k < l.i → is_hex (get_or l.bytes k 0) ≡ true
