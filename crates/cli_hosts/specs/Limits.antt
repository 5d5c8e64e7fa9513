-- How far a terminal may go with a host that sends records.
use Rattle.std.specs.Prelude.{ℕ, ◌+◌, ◌-◌, ◌*◌, ◌^◌, min, List, length, sum_by}
use Rattle.session_hub.specs.declared.seat.Limits.{Limits}

-- as far as a number of 64 bits counts
abbrev pub counted : ℕ → ℕ
counted n = min n (2 ^ 64 - 1)

-- the bytes of a record on its way, at most: each of its own may be sent twice, and 16 stand beside them
abbrev pub room_of : List ℕ → ℕ
room_of bytes = 2 * length bytes + 16

-- 131,072 bytes may come, and 16 for each record, and 65,536 bytes may wait to go out beside the records
abbrev pub limits_for : ℕ → List (List ℕ) → Limits
limits_for patience records =
    record { patience = patience; most_heard = counted (131072 + 16 * length records); most_due = counted (65536 + sum_by room_of records) }
