use Rattle.std.proofs.Common.{◌≡◌, ◌<◌, ◌+◌, true, false, List, length, refl, sym, ◌∙◌, ap, arith}
use Rattle.std.specs.Option.{unwrap_or}
use Rattle.ds_codec.specs.declared.cell.Cell.{Cell}
use Rattle.ds_codec.specs.declared.cell.Cell.TheVariants.{Char}
use Rattle.ds_screen.specs.Picture.{cell_at, ruled}
use Rattle.ds_screen.specs.Fields.{is_attribute}
use Rattle.ds_screen.specs.Orders.{nulled_cell}
use Rattle.ds_screen.proofs.TabLaws.{null_none, null_more, null_sees, length_nulled, first_hit, first_miss, one_more}
use Rattle.ds_screen.proofs.cells.Cells.null_to_attribute.Goals as goal

pub places-init : goal.places-init
places-init g c =
    let old : List Cell = g.Self.Cells.content c.args.self.now in
    record { stored = null_none old c.args.b; whole = refl; misses = λ q from below. absurd (omega arith); room = refl }

pub returns-then-is_field-clause-place : goal.returns-then-is_field-clause-place
returns-then-is_field-clause-place g c =
    let old : List Cell = g.Self.Cells.content c.args.self.now in
    let lt : c.places.p < length old = omega (arith, c.len-n.ensures, c.places-test.true) in
    let sees : is_attribute (cell_at old c.places.p) ≡ true =
    ap is_attribute (sym (c.cell.ensures ∙ null_sees old c.args.b c.places.p c.places.p (g.Self.Cells.content c.places.self) lt (omega arith) c.places.invariant.stored))
    ∙ sym c.is_field.ensures ∙ c.if-is_field.true in
    sym (ap (λ o. unwrap_or o (length old)) (first_hit is_attribute old c.args.b c.places.p
    (record { ahead = c.places.auto.p; inside = lt; misses = c.places.invariant.misses; hit = sees })))

pub places-preserved : goal.places-preserved
places-preserved g c =
    let old : List Cell = g.Self.Cells.content c.args.self.now in
    let now : List Cell = g.Self.Cells.content c.places.self in
    let lt : c.places.p < length old = omega (arith, c.len-n.ensures, c.places-test.true) in
    let missed : is_attribute (cell_at old c.places.p) ≡ false =
    ap is_attribute (sym (c.cell.ensures ∙ null_sees old c.args.b c.places.p c.places.p now lt (omega arith) c.places.invariant.stored))
    ∙ sym c.is_field.ensures ∙ c.if-is_field.false in
    let stored : g.Self.Cells.content c.put.new.self ≡ ruled (length old) (nulled_cell old c.args.b (c.places.p + 1)) =
    null_more old c.args.b c.places.p now (g.Self.Cells.content c.put.new.self) (Char c.null.result) c.places.auto.p lt c.places.invariant.stored
    (ap (λ x. Char x) c.null.ensures) c.put.ensures.stored in
    record {
      stored = stored;
      whole = length_nulled old c.args.b (c.places.p + 1) (g.Self.Cells.content c.put.new.self) stored;
      misses = one_more (λ q. is_attribute (cell_at old q)) c.args.b c.places.p c.places.invariant.misses missed;
      room = c.put.ensures.room ∙ c.places.invariant.room;
    }

pub returns-clause-place : goal.returns-clause-place
returns-clause-place g c =
    let old : List Cell = g.Self.Cells.content c.args.self.now in
    sym (ap (λ o. unwrap_or o (length old)) (first_miss is_attribute old c.args.b
    (λ q from below. c.places.invariant.misses q from (omega (arith, c.len-n.ensures, c.places-test.false))))
    ∙ sym c.len-n.ensures)

pub returns-clause-nulled : goal.returns-clause-nulled
returns-clause-nulled g c =
    let old : List Cell = g.Self.Cells.content c.args.self.now in
    let end : c.places.p ≡ c.len-n.result = omega (arith, c.requires.inside, c.len-n.ensures) in
    c.places.invariant.stored ∙ ap (λ k. ruled (length old) (nulled_cell old c.args.b k)) end
