use Rattle.std.proofs.Common.{◌≡◌, ◌≤◌, ◌++◌, false, map}
use Rattle.std.specs.Vec.Iter.{into_iter_items}
use Rattle.serde_json.specs.Data.{items_depth}
use Rattle.serde_json.specs.View.{view, items_of}
use Rattle.serde_json.specs.Written.{items_have_float}
use Rattle.cli_findings.specs.Results.{results_seen}
use Rattle.cli_findings.proofs.results.Results.append.Given as goal

-- the results so far, and those that are left
abbrev pub invariant-loop-value : goal.invariant-loop-value
invariant-loop-value l =
    (goal.iterator-loop-value).can_next l.value-iterator
    × (goal.iterator-loop-value).is_finite l.value-iterator
    × (results_seen l.self ++ map view (into_iter_items l.value-iterator) ≡ results_seen l.fn.self ++ results_seen l.fn.more)
    × (items_have_float (items_of (map view (into_iter_items l.value-iterator))) ≡ false)
    × (items_depth (items_of (map view (into_iter_items l.value-iterator))) ≤ 6)
