use Rattle.std.proofs.Common.{◌≡◌, ◌<◌, ◌≤◌, true, List, sym, ◌∙◌, ap, arith}
use Rattle.ds_codec.specs.declared.cell.Cell.{Cell}
use Rattle.ds_screen.specs.Picture.{cell_at}
use Rattle.ds_screen.specs.Fields.{is_attribute}
use Rattle.ds_keys.specs.Moves.{row_end}
use Rattle.ds_keys.proofs.RunLaws.{run_hit, run_miss}
use Rattle.ds_keys.proofs.runs.end_of_run.Goals as goal

pub returns-in-Field-clause-end : goal.returns-in-Field-clause-end
returns-in-Field-clause-end g c =
    let cells : List Cell = c.args.screen.now.cells in
    let hit : is_attribute (cell_at cells c.places.p) ≡ true = ap is_attribute (sym c.cell.ensures ∙ c.in-Field.is) in
    let lt : c.places.p < row_end c.args.screen.now.size.cols c.args.from = omega (arith, c.end_of_row-end.ensures.end, c.places-test.true) in
    run_hit cells c.args.screen.now.size.cols c.args.from c.places.p c.places.auto.p lt c.places.invariant hit

pub returns-clause-end : goal.returns-clause-end
returns-clause-end g c =
    let ahead : c.args.from ≤ row_end c.args.screen.now.size.cols c.args.from = omega (arith, c.end_of_row-end.ensures.end, c.end_of_row-end.ensures.ahead) in
    c.end_of_row-end.ensures.end
    ∙ run_miss c.args.screen.now.cells c.args.screen.now.size.cols c.args.from ahead
    (λ q from below. c.places.invariant q from (omega (arith, c.end_of_row-end.ensures.end, c.places-test.false)))
