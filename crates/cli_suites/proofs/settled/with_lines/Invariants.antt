use Rattle.std.proofs.Common.{◌≡◌, ◌++◌, map, string_bytes}
use Rattle.std.specs.Vec.Iter.{into_iter_items}
use Rattle.cli_suites.proofs.settled.with_lines.Given as goal

abbrev pub invariant-loop-line : goal.invariant-loop-line
invariant-loop-line l =
    (goal.iterator-loop-line).can_next l.line-iterator
    × (goal.iterator-loop-line).is_finite l.line-iterator
    × (map string_bytes l.lines.items ++ map string_bytes (into_iter_items l.line-iterator) ≡ map string_bytes l.fn.before.items ++ map string_bytes l.fn.more.items)
