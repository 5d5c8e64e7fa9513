use Rattle.std.proofs.Common.{◌≡◌, ℕ, ◌<◌, true, get_or}
use Rattle.script_lines.specs.Bytes.{is_of}
use Rattle.script_lines.proofs.blanks.length_of.Given as goal

abbrev pub invariant-loop-i : goal.invariant-loop-i
invariant-loop-i l = (k : ℕ) → k < l.i → is_of l.kind (get_or l.bytes k 0) ≡ true
