use Rattle.std.proofs.Common.{◌≡◌, ◌<◌, true, List, length, sym, ◌∙◌, ap, arith}
use Rattle.ds_codec.specs.declared.cell.Cell.{Cell}
use Rattle.ds_screen.specs.Ring.{ring_on}
use Rattle.ds_screen.specs.Picture.{cell_at}
use Rattle.ds_screen.specs.Orders.{is_unprotected_attribute, behind}
use Rattle.ds_screen.proofs.TabLaws.{first_hit, first_miss}
use Rattle.ds_screen.proofs.cells.Cells.stop_from.Goals as goal

pub returns-then-is_unprotected_field-clause-stop : goal.returns-then-is_unprotected_field-clause-stop
returns-then-is_unprotected_field-clause-stop g c =
    let cells : List Cell = g.Self.Cells.content c.args.self.now in
    let lt : c.places.p < length cells = omega (arith, c.len-n.ensures, c.places-test.true) in
    let sees : is_unprotected_attribute (cell_at cells c.places.p) ≡ true =
    ap is_unprotected_attribute (sym c.cell.ensures) ∙ sym c.is_unprotected_field.ensures ∙ c.if-is_unprotected_field.true in
    c.next.ensures.on ∙ ap (λ n. ring_on n c.places.p 1) c.len-n.ensures
    ∙ sym (ap (behind (length cells)) (first_hit is_unprotected_attribute cells c.args.from c.places.p
    (record { ahead = c.places.auto.p; inside = lt; misses = c.places.invariant; hit = sees })))

pub returns-clause-stop : goal.returns-clause-stop
returns-clause-stop g c =
    let cells : List Cell = g.Self.Cells.content c.args.self.now in
    sym (ap (behind (length cells)) (first_miss is_unprotected_attribute cells c.args.from
    (λ q from below. c.places.invariant q from (omega (arith, c.len-n.ensures, c.places-test.false)))))
