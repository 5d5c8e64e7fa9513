-- For the code's own proofs: only functions within the crate cite this file, so no public contract rests on it.
-- The state that orders work on, as the code keeps it.
use Rattle.std.specs.Prelude.{◌≡◌, ◌<◌, true, List, [], ◌∷◌, length}
use Rattle.std.specs.List.{list_all}
use Rattle.ds_codec.specs.declared.cell.Cell.{Cell}
use Rattle.ds_codec.specs.Character.{is_text, is_graphic, is_glyph}
use Rattle.ds_codec.specs.Order.{Item, text, repeat_to_address, graphic_escape, Site}
use Rattle.ds_screen.specs.declared.state.State.{State}
use Rattle.ds_screen.specs.Orders.{Writing}

abbrev pub writing : List Cell → State → Writing
writing cells state = record { cells = cells; cursor = state.cursor; address = state.address; nulling = state.nulling }

-- the characters of an order exist
abbrev pub HasCharacters : Item → Type 0
HasCharacters (text run) = list_all is_text run ≡ true
HasCharacters (repeat_to_address stop character) = is_glyph character ≡ true
HasCharacters (graphic_escape code) = is_graphic code ≡ true
HasCharacters order = Unit {0}

abbrev pub HaveCharacters : List Site → Type 0
HaveCharacters [] = Unit {0}
HaveCharacters (site ∷ sites) = HasCharacters site.order × HaveCharacters sites

-- the cursor and the buffer address are positions
pub record IsInside (cells : List Cell) (state : State) : Type 0 where
  pub cursor : state.cursor < length cells
  pub address : state.address < length cells
