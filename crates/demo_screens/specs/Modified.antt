-- For the code's own proofs: only functions within the crate cite this file, so no public contract rests on it.
-- The modified attributes of a buffer.
use Rattle.std.specs.Prelude.{◌≡◌, ℕ, ◌<◌, true, List, length}
use Rattle.std.specs.List.{filter}
use Rattle.ds_codec.specs.declared.cell.Cell.{Cell}
use Rattle.ds_screen.specs.Picture.{cell_at}
use Rattle.ds_screen.specs.Fields.{is_attribute, attributes_from}
use Rattle.ds_inbound.specs.Answer.{is_modified_at}

-- the places of the attributes that are modified, in rising order
abbrev pub modified_places : List Cell → List ℕ
modified_places cells = filter (is_modified_at cells) (attributes_from cells 0)

-- an attribute stands at a place
pub record IsAttributeAt (cells : List Cell) (q : ℕ) : Type 0 where
  pub inside : q < length cells
  pub there : is_attribute (cell_at cells q) ≡ true
