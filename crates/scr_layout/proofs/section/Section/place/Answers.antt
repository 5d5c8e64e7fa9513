use Rattle.std.proofs.Common.{◌+◌, ◌-◌, ◌*◌, ap, subst, sym, ◌∙◌, arith}
use Rattle.scr_layout.specs.Section.{number_data, members_of, IsPlaced}
use Rattle.scr_layout.proofs.SectionLaws.{at_row, at_col, placed}
use Rattle.scr_layout.proofs.section.Section.place.Goals as goal

pub returns : goal.returns
returns c =
    let row = c.in_ok-row.row in
    let col = c.in_ok-col.col in
    subst (λ cols. IsPlaced c.args.size (members_of c.args.self.now) ((row - 1) * cols + (col - 1))) (sym c.from-2.ensures)
    (placed c.args.size (members_of c.args.self.now) row col (at_row _ _ _ _ _ _ _ ∙ ap number_data c.in_ok-row.was) (at_col _ _ _ _ _ _ _ ∙ ap number_data c.in_ok-col.was)
    c.if-row-lt1.false (omega (arith, c.if-from-row.false, c.from.ensures)) c.if-col-lt1.false (omega (arith, c.if-from-col.false, c.from-else-col-lt1.ensures)))
