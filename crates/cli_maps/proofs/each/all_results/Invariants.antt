use Rattle.std.proofs.Common.{◌≡◌, ◌≤◌, false, map, drop}
use Rattle.serde_json.specs.Data.{items_depth}
use Rattle.serde_json.specs.View.{view, items_of}
use Rattle.serde_json.specs.Written.{items_have_float}
use Rattle.cli_maps.specs.Told.{all_results}
use Rattle.cli_maps.proofs.Folds.{behind}
use Rattle.cli_maps.proofs.each.all_results.Given as goal

abbrev pub invariant-loop-map : goal.invariant-loop-map
invariant-loop-map l =
    record {
      results : behind (map view l.results.items) (all_results l.path (map (λ line. line.now) l.lines) l.control (drop l.map-index l.maps))
          ≡ all_results l.path (map (λ line. line.now) l.lines) l.control l.maps;
      plain : items_have_float (items_of (map view l.results.items)) ≡ false;
      flat : items_depth (items_of (map view l.results.items)) ≤ 6;
    }
