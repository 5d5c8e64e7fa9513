use Rattle.std.proofs.Common.{◌≡◌, ◌-◌, List, refl, sym, ◌∙◌, ap, arith}
use Rattle.ds_codec.specs.declared.cell.Cell.{Cell}
use Rattle.ds_screen.specs.Shown.{is_null, are_nulls}
use Rattle.ds_screen.proofs.NullLaws.{nulls_none, nulls_more, nulls_not}
use Rattle.ds_screen.proofs.cells.Cells.are_nulls.Goals as goal

pub overflow_add-p-end : goal.overflow_add-p-end
overflow_add-p-end g c = omega (arith, c.requires, c.len-places.ensures)

pub places-init : goal.places-init
places-init g c =
    let cells : List Cell = g.Self.Cells.content c.args.self.now in
    let nothing : c.args.from - c.args.from ≡ 0 = omega arith in
    ap (are_nulls cells c.args.from) nothing ∙ nulls_none cells c.args.from

pub cell-requires : goal.cell-requires
cell-requires g c = omega (arith, c.requires, c.places-test.true)

pub returns-then-not-is_null : goal.returns-then-not-is_null
returns-then-not-is_null g c =
    let cells : List Cell = g.Self.Cells.content c.args.self.now in
    sym (nulls_not cells c.args.from c.places.p c.args.count c.places.auto.p c.places-test.true (ap is_null (sym c.cell.ensures) ∙ sym c.is_null.ensures ∙ c.if-not-is_null.true))

pub places-preserved : goal.places-preserved
places-preserved g c =
    let cells : List Cell = g.Self.Cells.content c.args.self.now in
    ap (are_nulls cells c.args.from) (omega (arith, c.places.auto.p))
    ∙ nulls_more cells c.args.from c.places.p (c.places.p - c.args.from) c.places.auto.p refl c.places.invariant (ap is_null (sym c.cell.ensures) ∙ sym c.is_null.ensures ∙ c.if-not-is_null.false)

pub returns : goal.returns
returns g c =
    let cells : List Cell = g.Self.Cells.content c.args.self.now in
    sym c.places.invariant ∙ ap (are_nulls cells c.args.from) (omega (arith, c.places.auto.p, c.places-test.false))
