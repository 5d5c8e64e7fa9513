use Rattle.std.proofs.Common.{◌≡◌, ◌≤◌, ◌++◌, map, length, string_bytes, ◌+◌, ◌*◌}
use Rattle.std.specs.Vec.Iter.{into_iter_items, into_iter_len}
use Rattle.scr_layout.specs.Rows.{entries_from}
use Rattle.scr_layout.proofs.rows.with_names.Given as goal

-- the entries so far, with those of the names that are left, are those of all
abbrev pub invariant-loop-name : goal.invariant-loop-name
invariant-loop-name l =
    (goal.iterator-loop-name).can_next l.name-iterator
    × (goal.iterator-loop-name).is_finite l.name-iterator
    × (into_iter_len l.name-iterator ≡ length (into_iter_items l.name-iterator))
    × (l.place + 65025 * into_iter_len l.name-iterator ≤ 16646400)
    × (l.listed ++ entries_from l.step l.place l.cells l.kind (map string_bytes (into_iter_items l.name-iterator))
    ≡ l.fn.before ++ entries_from l.fn.step l.fn.first l.fn.cells l.fn.kind (map string_bytes l.fn.names.items))
