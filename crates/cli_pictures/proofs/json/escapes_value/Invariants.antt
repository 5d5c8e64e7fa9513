use Rattle.std.proofs.Common.{◌≡◌, map}
use Rattle.std.specs.List.{flat_map, range_with_len}
use Rattle.serde_json.specs.View.{view}
use Rattle.cli_pictures.specs.Json.{escape_at}
use Rattle.cli_pictures.proofs.json.escapes_value.Given as goal

abbrev pub invariant-loop-p : goal.invariant-loop-p
invariant-loop-p l = map view l.places.items ≡ flat_map (escape_at l.screen.cells) (range_with_len 0 l.p)
