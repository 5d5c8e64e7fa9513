use Rattle.std.proofs.Common.{◌≡◌, true, false, sym, ◌∙◌, ap, arith, length}
use Rattle.ds_screen.specs.Picture.{cell_at}
use Rattle.ds_screen.specs.Fields.{ruling_bits, is_open_under, is_open}
use Rattle.ds_screen.specs.Planes.{Held}
use Rattle.ds_screen.proofs.RingLaws.{on-zero}
use Rattle.ds_screen.proofs.RulingLaws.{open_at}
use Rattle.ds_screen.proofs.StartLaws.{open_ahead}
use Rattle.ds_screen.proofs.plane_cells.PlaneCells.open_from.Goals as goal

pub returns-then-is_open_cell-clause-first : goal.returns-then-is_open_cell-clause-first
returns-then-is_open_cell-clause-first c =
    let cells = c.args.self.now.cells in
    let opens : is_open cells c.args.from ≡ true =
    sym (c.is_open_cell.ensures ∙ ap (λ r. is_open_under r c.cell.result) c.ruling_at.ensures
    ∙ ap (is_open_under (ruling_bits cells c.args.from)) (c.cell.ensures ∙ ap (λ (u : Held). cell_at u.cells c.args.from) c.self.view_is)) ∙ c.if-is_open_cell.true in
    open_at cells c.args.from 0 c.args.from (omega (arith, c.requires)) (sym (on-zero (length cells) c.args.from c.requires)) (λ d below. absurd (omega arith)) opens

pub returns-else-is_open_cell-clause-first : goal.returns-else-is_open_cell-clause-first
returns-else-is_open_cell-clause-first c =
    let cells = c.args.self.now.cells in
    let shut : is_open cells c.args.from ≡ false =
    sym (c.is_open_cell.ensures ∙ ap (λ r. is_open_under r c.cell.result) c.ruling_at.ensures
    ∙ ap (is_open_under (ruling_bits cells c.args.from)) (c.cell.ensures ∙ ap (λ (u : Held). cell_at u.cells c.args.from) c.self.view_is)) ∙ c.if-is_open_cell.false in
    c.start_from.ensures.start ∙ open_ahead cells c.args.from c.requires shut
