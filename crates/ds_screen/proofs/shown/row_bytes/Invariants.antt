use Rattle.std.proofs.Common.{◌≡◌, ℕ, ◌<◌, List, length}
use Rattle.std.specs.Prelude.{All}
use Rattle.ds_codec.specs.declared.cell.Cell.{Cell}
use Rattle.ds_screen.specs.Ring.{ring_back}
use Rattle.ds_screen.specs.Fields.{ruling_bits}
use Rattle.ds_screen.proofs.RowLaws.{printed_part, part_row}
use Rattle.ds_screen.proofs.shown.row_bytes.Given as goal

-- the places before this one are printed, and what rules the last of them is known
pub record Printed (cells : List Cell) (start columns at ruling : ℕ) (bytes : List ℕ) : Type 0 where
  pub printed : bytes ≡ part_row cells start columns at
  pub ruled : ruling ≡ ruling_bits cells (ring_back (length cells) at 1)
  pub ascii : All (λ byte. byte < 128) (printed_part cells start at)

abbrev pub invariant-places : goal.invariant-places
invariant-places g l = Printed (g.C.Cells.content l.cells) l.start l.columns l.at l.ruling l.bytes.items
