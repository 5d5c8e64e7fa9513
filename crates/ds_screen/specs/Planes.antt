-- For the code's own proofs: public contracts rest on this file alone for which places an index holds.
-- Cells kept in two planes, and the places of their attributes in rising order.
use Rattle.std.specs.Prelude.{◌≡◌, ℕ, ◌<◌, ◌≤◌, ◌+◌, ◌-◌, ◌^◌, min, Bool, true, false, ◌&&◌, nat_lt, nat_le, if◌then◌else◌, List, length, Option, Some, None, slice_index_or, slice_index}
use Rattle.ds_codec.specs.declared.cell.Cell.{Cell}
use Rattle.ds_codec.specs.declared.cell.Cell.TheVariants.{Field, Char}
use Rattle.ds_codec.specs.Character.{Glyph, is_text, is_graphic, glyph}
use Rattle.ds_places.specs.Places.{at_place, IsRising}
use Rattle.ds_screen.specs.declared.stored.Kind.{Kind}
use Rattle.ds_screen.specs.declared.stored.Kind.TheVariants.{Attribute, Plain, Alternate}
use Rattle.ds_screen.specs.Ring.{ring_on, ring_distance}
use Rattle.ds_screen.specs.Picture.{blank, cell_at, ruled}
use Rattle.ds_screen.specs.Fields.{is_attribute, is_open}

-- the cell that a kind and a code stand for
abbrev pub stored_cell : Kind → ℕ → Cell
stored_cell Attribute code = Field code
stored_cell Plain code = Char (glyph code false)
stored_cell Alternate code = Char (glyph code true)

-- there is such a cell
abbrev pub is_storable : Kind → ℕ → Bool
is_storable Attribute code = nat_lt code 64
is_storable Plain code = is_text code
is_storable Alternate code = is_graphic code

abbrev pub plane_cell : List ℕ → List Kind → ℕ → Cell
plane_cell codes kinds p = stored_cell (slice_index_or kinds p Plain) (slice_index_or codes p 0)

-- the cells of a plane of codes and a plane of kinds
unfoldable pub plane_cells : List ℕ → List Kind → List Cell
plane_cells codes kinds = ruled (length codes) (plane_cell codes kinds)

-- a kind for each code, and a cell for both
pub record ArePlanes (codes : List ℕ) (kinds : List Kind) : Type 0 where
  pub same : length kinds ≡ length codes
  pub each : (p : ℕ) → p < length codes → is_storable (slice_index_or kinds p Plain) (slice_index_or codes p 0) ≡ true

-- no kind but plain
abbrev pub AreAllPlain : List Kind → Type 0
AreAllPlain kinds = (p : ℕ) → slice_index_or kinds p Plain ≡ Plain

-- cells, and how many there is room for
pub record Held : Type 0 where
  pub cells : List Cell
  pub room : ℕ

abbrev pub held_cells : List ℕ → List Kind → ℕ → Held
held_cells codes kinds room = record { cells = plane_cells codes kinds; room = room }

-- the positions from one up to another hold a character, the others what they held
abbrev pub filled_cell : List Cell → ℕ → ℕ → Glyph → ℕ → Cell
filled_cell cells from to character p = if nat_le from p && nat_lt p to then Char character else cell_at cells p

-- so many positions hold the characters of a run's bytes, the others what they held
abbrev pub written_cell : List Cell → ℕ → List ℕ → ℕ → ℕ → ℕ → Cell
written_cell cells at run from count p =
    if nat_le at p && nat_lt p (at + count) then Char (glyph (slice_index run (from + (p - at))) false) else cell_at cells p

abbrev pub itself : ℕ → ℕ
itself p = p

-- p, where the cell there is an attribute
abbrev pub spot_of : ℕ → Cell → Option ℕ
spot_of p (Field bits) = Some p
spot_of p (Char character) = None

-- p, where it is to be held
abbrev pub spot_if : ℕ → Bool → Option ℕ
spot_if p true = Some p
spot_if p false = None

-- the places of all attributes of the cells, in rising order, and no other
pub record IsIndex (index : List ℕ) (cells : List Cell) : Type 0 where
  pub rising : IsRising itself index
  pub each : (p : ℕ) → at_place itself index p ≡ spot_of p (cell_at cells p)

-- no attribute stands at so many positions from one on, round the buffer
abbrev pub HasNone : List Cell → ℕ → ℕ → Type 0
HasNone cells at steps = (d : ℕ) → d < steps → is_attribute (cell_at cells (ring_on (length cells) at d)) ≡ false

-- where this is asked for, so many positions from one on round the buffer hold nulls, the others what they held
abbrev pub stretch_cell : List Cell → ℕ → ℕ → Bool → ℕ → Cell
stretch_cell cells at run asked p = if asked && nat_lt (ring_distance (length cells) at p) run then blank else cell_at cells p

-- what is open of so many positions from one on is nulled
abbrev pub erased_for : List Cell → ℕ → ℕ → ℕ → Cell
erased_for cells b steps p =
    if nat_lt (ring_distance (length cells) b p) steps then (if is_open cells p then blank else cell_at cells p) else cell_at cells p

-- an index that is looked at: its positions, of how many blocks it is, how often it was looked at a position, and how often at a
-- block or the number of one
pub record Probing : Type 0 where
  pub positions : List ℕ
  pub size : ℕ
  pub probes : ℕ
  pub blocks : ℕ

-- after so many more looks at positions and at blocks
abbrev pub looked : Probing → ℕ → ℕ → Probing
looked was probes blocks =
    record { positions = was.positions; size = was.size; probes = was.probes + probes; blocks = min (was.blocks + blocks) (2 ^ 64 - 1) }

-- it was looked at no more positions than their number has binary digits, and so many more, and at blocks likewise
pub record LooksFew (was is : Probing) (more_probes more_blocks : ℕ) : Type 0 where
  pub kept : is.positions ≡ was.positions
  pub probes : (digits : ℕ) → length was.positions < 2 ^ digits → is.probes ≤ was.probes + digits + more_probes
  pub blocks : (digits : ℕ) → length was.positions < 2 ^ digits → is.blocks ≤ was.blocks + digits + more_blocks
