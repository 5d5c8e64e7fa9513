use Rattle.std.proofs.Common.{◌++◌, ◌∙◌, map, ap}
use Rattle.serde_json.specs.View.{view}
use Rattle.cli_pictures.specs.Json.{field_data}
use Rattle.cli_pictures.proofs.JsonLaws.{one_field}
use Rattle.cli_pictures.proofs.json.fields_value.Goals as goal

pub loop-field-preserved : goal.loop-field-preserved
loop-field-preserved c =
    ap (λ items. map view items ++ map (field_data c.args.screen.now) c.next.new.self) c.in_ok-push.ensures.items
    ∙ one_field view (field_data c.args.screen.now) c.loop-field.fields.items _ c.loop-field.field-iterator c.in-Some.field c.next.new.self _ c.in-Some.ensures.steps c.loop-field.invariant
    c.in_ok-field_value.ensures
