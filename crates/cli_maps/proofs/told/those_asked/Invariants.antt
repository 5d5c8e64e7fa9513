use Rattle.std.proofs.Common.{◌≡◌, ◌++◌}
use Rattle.std.specs.List.{filter}
use Rattle.std.specs.Vec.Iter.{into_iter_items}
use Rattle.cli_maps.specs.Asked.{is_asked, name_in}
use Rattle.cli_maps.proofs.told.those_asked.Given as goal

abbrev pub invariant-loop-map : goal.invariant-loop-map
invariant-loop-map l =
    (goal.iterator-loop-map).can_next l.map-iterator
    × (goal.iterator-loop-map).is_finite l.map-iterator
    × (l.asked.items ++ filter (is_asked (name_in l.name)) (into_iter_items l.map-iterator) ≡ filter (is_asked (name_in l.name)) l.fn.maps.items)
