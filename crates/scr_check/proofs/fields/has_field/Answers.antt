use Rattle.std.proofs.Common.{◌≡◌, ◌&&◌, true, false, not, length, ◌∙◌, sym, ap, arith}
use Rattle.ds_codec.specs.Geometry.{cells_of}
use Rattle.ds_screen.specs.Ring.{ring_back}
use Rattle.ds_screen.specs.Picture.{cell_at}
use Rattle.ds_screen.specs.Fields.{is_attribute}
use Rattle.scr_check.proofs.FieldLaws.{has_looks}
use Rattle.scr_check.proofs.fields.has_field.Goals as goal

pub returns-then-cells-place : goal.returns-then-cells-place
returns-then-cells-place c = λ v is inside.
    let n : length v.cells ≡ c.cells-cells.result = is.sound.whole ∙ sym (c.cells-cells.ensures ∙ ap cells_of (c.size.ensures ∙ is.size)) in
    absurd (omega (arith, n, inside, c.if-cells-place.true))

pub returns-then-not-has_attribute_near : goal.returns-then-not-has_attribute_near
returns-then-not-has_attribute_near c = λ v is inside.
    let n : length v.cells ≡ c.cells-cells.result = is.sound.whole ∙ sym (c.cells-cells.ensures ∙ ap cells_of (c.size.ensures ∙ is.size)) in
    let back : c.previous.result ≡ ring_back (length v.cells) c.args.place 1 = c.previous.ensures.back ∙ ap (λ m. ring_back m c.args.place 1) (sym n) in
    let before : false ≡ is_attribute (cell_at v.cells c.previous.result) = sym c.if-not-has_attribute_near.true ∙ c.has_attribute_near.ensures v is in
    ap (λ b. b && not (is_attribute (cell_at v.cells c.args.place))) before ∙ has_looks v.cells c.args.place c.previous.result inside back

pub returns : goal.returns
returns c = λ v is inside.
    let n : length v.cells ≡ c.cells-cells.result = is.sound.whole ∙ sym (c.cells-cells.ensures ∙ ap cells_of (c.size.ensures ∙ is.size)) in
    let back : c.previous.result ≡ ring_back (length v.cells) c.args.place 1 = c.previous.ensures.back ∙ ap (λ m. ring_back m c.args.place 1) (sym n) in
    let before : true ≡ is_attribute (cell_at v.cells c.previous.result) = sym c.if-not-has_attribute_near.false ∙ c.has_attribute_near.ensures v is in
    ap not (c.has_attribute_near-2.ensures v is) ∙ ap (λ b. b && not (is_attribute (cell_at v.cells c.args.place))) before
    ∙ has_looks v.cells c.args.place c.previous.result inside back
