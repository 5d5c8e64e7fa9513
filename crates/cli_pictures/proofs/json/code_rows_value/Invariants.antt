use Rattle.std.proofs.Common.{◌≡◌, map}
use Rattle.std.specs.List.{range_with_len}
use Rattle.serde_json.specs.View.{view}
use Rattle.cli_pictures.specs.Json.{code_row_data}
use Rattle.cli_pictures.proofs.json.code_rows_value.Given as goal

abbrev pub invariant-loop-row : goal.invariant-loop-row
invariant-loop-row l = map view l.rows.items ≡ map (code_row_data l.screen) (range_with_len 0 l.row)
