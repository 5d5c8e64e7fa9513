-- For the code's own proofs: only functions within the crate cite this file, so no public contract rests on it.
use Rattle.std.specs.Prelude.{◌≡◌, ℕ, ◌<◌, Bool, true, false, List, length, Option, Some, None}
use Rattle.ds_codec.specs.declared.cell.Cell.{Cell}
use Rattle.ds_screen.specs.Ring.{ring_on}
use Rattle.ds_screen.specs.Picture.{Picture, cell_at}
use Rattle.ds_screen.specs.Fields.{is_attribute}

-- what a try to make room for a character left: the picture with room, or the one before
abbrev pub Readied : Option Picture → Picture → Bool → Picture → Type 0
Readied None before done after = (done ≡ false) × (after ≡ before)
Readied (Some place) before done after = (done ≡ true) × (after ≡ place)

-- no attribute stands at so many positions from one on, round the ring
abbrev pub AreCharactersOn : List Cell → ℕ → ℕ → Type 0
AreCharactersOn cells at count = (d : ℕ) → d < count → is_attribute (cell_at cells (ring_on (length cells) at d)) ≡ false
