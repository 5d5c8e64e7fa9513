use Rattle.std.proofs.Common.{◌+◌, ◌∷◌, drop, sym, ◌∙◌, ap}
use Rattle.std.proofs.lemmas.List.{drop_more}
use Rattle.bms_map.specs.Record.{field_orders}
use Rattle.bms_map.proofs.OrderLaws.{with_next}
use Rattle.bms_map.proofs.record.push_fields.Goals as goal

pub loop-field-preserved : goal.loop-field-preserved
loop-field-preserved c =
    with_next (field_orders c.args.cursor) c.args.draft.now c.loop-field.draft c.push_field.new.draft c.args.fields.now (drop c.loop-field.field-index c.args.fields.now) c.field-item.result
    (drop (c.loop-field.field-index + 1) c.args.fields.now)
    (drop_more c.args.fields.now c.loop-field.field-index c.field-item.result c.loop-field-test.true ∙ ap (λ x. x ∷ drop (c.loop-field.field-index + 1) c.args.fields.now) (sym c.field-item.is))
    c.loop-field.invariant c.in_ok-push_field.ensures
