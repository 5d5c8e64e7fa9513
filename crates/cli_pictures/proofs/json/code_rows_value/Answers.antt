use Rattle.std.proofs.Common.{◌∙◌, map, ap}
use Rattle.serde_json.specs.View.{view}
use Rattle.cli_pictures.specs.Json.{code_row_data}
use Rattle.cli_pictures.proofs.JsonLaws.{one_row}
use Rattle.cli_pictures.proofs.json.code_rows_value.Goals as goal

pub loop-row-preserved : goal.loop-row-preserved
loop-row-preserved c =
    ap (map view) c.in_ok-push.ensures.items
    ∙ one_row view (code_row_data c.args.screen.now) c.loop-row.row c.loop-row.rows.items _ c.loop-row.invariant c.in_ok-code_row_value.ensures
