use Rattle.std.proofs.Common.{◌≡◌, ℕ, ◌<◌, true, get_or}
use Rattle.script_requests.specs.Addresses.{is_other}
use Rattle.script_requests.proofs.address.count_before.Given as goal

abbrev pub invariant-loop-i : goal.invariant-loop-i
invariant-loop-i l = (k : ℕ) → k < l.i → is_other l.byte (get_or l.text k 0) ≡ true
