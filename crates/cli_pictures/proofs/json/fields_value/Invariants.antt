use Rattle.std.proofs.Common.{◌≡◌, ◌++◌, map}
use Rattle.ds_screen.specs.Fields.{fields_of}
use Rattle.serde_json.specs.View.{view}
use Rattle.cli_pictures.specs.Json.{field_data}
use Rattle.cli_pictures.proofs.json.fields_value.Given as goal

abbrev pub invariant-loop-field : goal.invariant-loop-field
invariant-loop-field l = map view l.fields.items ++ map (field_data l.screen) l.field-iterator ≡ map (field_data l.screen) (fields_of l.screen.cells)
