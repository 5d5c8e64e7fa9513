use Rattle.std.proofs.Common.{◌≡◌, true, false, arith, ◌∙◌, ap}
use Rattle.ds_screen.specs.Picture.{cell_at}
use Rattle.ds_screen.specs.Fields.{is_attribute}
use Rattle.script_keys.specs.Fill.{is_used_at}
use Rattle.script_keys.proofs.FillLaws.{used_here, row_used, row_empty}
use Rattle.script_keys.proofs.fill.is_empty_row.Goals as goal

pub returns-then-not-is_null : goal.returns-then-not-is_null
returns-then-not-is_null g c =
    let hit : is_used_at c.args.screen.now.cells c.args.end c.places.d ≡ true =
    used_here c.args.screen.now.cells c.args.end c.places.d c.saturating_sub-place.result c.cell.result c.is_null.result false c.saturating_sub-place.ensures c.cell.ensures
    c.is_null.ensures c.if-not-is_null.true in
    row_used c.args.screen.now.cells c.args.columns c.args.end c.places.d c.is_field.result c.places-test.true c.places.invariant hit
    (c.is_field.ensures ∙ ap is_attribute (c.cell-then-not-is_null.ensures ∙ ap (cell_at c.args.screen.now.cells) c.saturating_sub-place.ensures))

pub returns : goal.returns
returns g c =
    row_empty c.args.screen.now.cells c.args.columns c.args.end (λ e lt. c.places.invariant e (omega (arith, c.places-test.false)))
