use Rattle.std.proofs.Common.{sym}
use Rattle.scr_layout.proofs.LayoutLaw.{screen-small, parts-law}
use Rattle.scr_layout.proofs.layout.Layout.from_table.Goals as goal

pub entries_of-requires : goal.entries_of-requires
entries_of-requires c = screen-small _ _ _ _ _ (sym c.in_ok-default.ensures) (sym c.in_ok-alternate.ensures) (sym c.in_ok-size.ensures)

pub of_parts-requires : goal.of_parts-requires
of_parts-requires c = parts-law _ _ _ _ _ _ _ _ (sym c.in_ok-default.ensures) (sym c.in_ok-alternate.ensures) (sym c.in_ok-size.ensures) c.in_ok-listed.ensures
