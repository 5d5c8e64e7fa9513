use Rattle.std.proofs.Common.{◌≡◌, ◌∷◌, [], ◌++◌, length, map, sym, ap, ◌∙◌, arith, append_assoc, length-append}
use Rattle.std.proofs.lemmas.List.{length-map}
use Rattle.ds_codec.specs.Geometry.{cells_of}
use Rattle.terminal_calls.specs.Items.{field_told, laid}
use Rattle.terminal_calls.proofs.Laid.{room_left, told_more}
use Rattle.terminal_calls.proofs.items.lay_fields.Goals as goal

pub overflow_add-count : goal.overflow_add-count
overflow_add-count c =
    let v = c.args.screen.now in
    let n_is : c.cells-positions.result ≡ length v.cells = c.cells-positions.ensures ∙ ap cells_of c.size.ensures.value ∙ sym c.size.ensures.sound.whole in
    record { fits = room_left v.cells c.fields.invariant.0 c.fields.field-iterator c.fields.count c.cells-positions.result n_is c.cells-positions.type_inv c.fields.invariant.1 c.fields.invariant.2 }

pub fields-preserved : goal.fields-preserved
fields-preserved c =
    let before = c.fields.invariant.0 in (
      before ++ c.in-Some.field ∷ [],
      append_assoc before (c.in-Some.field ∷ []) c.next.new.self ∙ ap (λ rest. before ++ rest) (sym c.in-Some.ensures.steps) ∙ c.fields.invariant.1,
      omega (arith, c.fields.invariant.2, length-append before (c.in-Some.field ∷ [])),
      c.lay_next.ensures.next c.args.out.now (map field_told before) (length-map before field_told ∙ sym c.fields.invariant.2) c.fields.invariant.3
          ∙ ap (laid c.args.out.now) (told_more before c.in-Some.field c.field_told.result c.field_told.ensures),
    )
