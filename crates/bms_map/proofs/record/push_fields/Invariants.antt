use Rattle.std.proofs.Common.{◌≡◌, drop}
use Rattle.std.specs.List.{flat_map}
use Rattle.order_lines.specs.Draft.{with_orders}
use Rattle.bms_map.specs.Record.{field_orders}
use Rattle.bms_map.proofs.record.push_fields.Given as goal

abbrev pub invariant-loop-field : goal.invariant-loop-field
invariant-loop-field l =
    with_orders l.draft (flat_map (field_orders l.cursor) (drop l.field-index l.fields)) ≡ with_orders l.fn.draft (flat_map (field_orders l.fn.cursor) l.fn.fields)
