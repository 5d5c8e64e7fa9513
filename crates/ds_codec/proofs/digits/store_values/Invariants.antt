use Rattle.std.proofs.Common.{◌<◌, ◌≤◌, ℕ, slice_index}
use Rattle.ds_codec.specs.Digits.{AreValues, HasOther}
use Rattle.ds_codec.proofs.digits.store_values.Given as goal

abbrev pub invariant-values : goal.invariant-values
invariant-values l =
    ((k : ℕ) → k < l.i → slice_index l.values k ≤ l.worst)
    × (l.worst < 16 → AreValues l.digits l.values l.i)
    × (16 ≤ l.worst → HasOther l.digits)
