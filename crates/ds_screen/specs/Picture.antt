-- What a terminal shows and keeps.
use Rattle.std.specs.Prelude.{◌≡◌, ℕ, ◌<◌, ◌⊎◌, Bool, true, List, map, length, slice_index_or}
use Rattle.std.specs.List.{range_with_len, list_all}
use Rattle.ds_codec.specs.declared.cell.Cell.{Cell}
use Rattle.ds_codec.specs.declared.cell.Cell.TheVariants.{Field, Char}
use Rattle.ds_codec.specs.declared.size.Size.{Size}
use Rattle.ds_codec.specs.Aid.{is_aid}
use Rattle.ds_codec.specs.Character.{null, is_glyph}
use Rattle.ds_codec.specs.Geometry.{Sizes, IsGood, cells_of}
use Rattle.ds_screen.specs.declared.lock.Lock.{Lock}

-- the two sizes, the size in use and a cell for each of its positions, row by row; then the cursor, the keyboard's
-- lock and the last attention identifier
pub record Picture : Type 0 where
  pub geometry : Sizes
  pub size : Size
  pub cells : List Cell
  pub cursor : ℕ
  pub lock : Lock
  pub aid : ℕ

-- what a new cell holds
abbrev pub blank : Cell
blank = Char null

-- the cell at a position; past the last one a null
abbrev pub cell_at : List Cell → ℕ → Cell
cell_at cells p = slice_index_or cells p blank

-- the buffer of n cells that holds at each position what the rule says
unfoldable pub ruled : ℕ → (ℕ → Cell) → List Cell
ruled n rule = map rule (range_with_len 0 n)

-- an attribute, or a character that exists: a text byte, or 40 to FE of the alternate set
abbrev pub is_real : Cell → Bool
is_real (Field bits) = true
is_real (Char character) = is_glyph character

-- what holds of every screen's picture: good sizes, a cell for each position of the one in use, the cursor at one of
-- them, only characters that exist, and an attention identifier, which may be that of no key
pub record IsSound (v : Picture) : Type 0 where
  pub default_good : IsGood v.geometry.mode v.geometry.default
  pub alternate_good : IsGood v.geometry.mode v.geometry.alternate
  pub one_of_two : (v.size ≡ v.geometry.default) ⊎ (v.size ≡ v.geometry.alternate)
  pub whole : length v.cells ≡ cells_of v.size
  pub cursor_inside : v.cursor < cells_of v.size
  pub characters : list_all is_real v.cells ≡ true
  pub attention : is_aid v.aid ≡ true
