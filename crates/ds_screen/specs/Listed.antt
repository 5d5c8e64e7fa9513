-- For the code's own proofs: no public contract rests on this file.
-- The places of a buffer's attributes in a list, and the stretches of a buffer in which unprotected ones may stand.
use Rattle.std.specs.Prelude.{◌≡◌, ℕ, ◌<◌, ◌≤◌, ◌/◌, slice_index_or, Bool, false, true, not, ◌&&◌, if◌then◌else◌, List, length, Option, Some, None}
use Rattle.ds_codec.specs.declared.cell.Cell.{Cell}
use Rattle.ds_codec.specs.Attribute.{is_protected}
use Rattle.ds_places.specs.Places.{at_place, IsRising, is_round}
use Rattle.ds_screen.specs.Ring.{ring_on}
use Rattle.ds_screen.specs.Picture.{cell_at}
use Rattle.ds_screen.specs.Fields.{attribute_of, is_character}
use Rattle.ds_screen.specs.Orders.{is_unprotected_attribute}
use Rattle.ds_screen.specs.Planes.{itself, spot_if}

-- there is an attribute
abbrev pub is_any : Option ℕ → Bool
is_any None = false
is_any (Some bits) = true

-- there is an attribute, and it doesn't protect
abbrev pub is_free : Option ℕ → Bool
is_free None = false
is_free (Some bits) = not (is_protected bits)

-- the places of the attributes that pass a test, in rising order, and no other
pub record Lists (test : Option ℕ → Bool) (places : List ℕ) (cells : List Cell) : Type 0 where
  pub rising : IsRising itself places
  pub each : (p : ℕ) → at_place itself places p ≡ spot_if p (test (attribute_of (cell_at cells p)))

-- the places of attributes, the marks of stretches of 256 positions, and the number below which places are to be
pub record Listing : Type 0 where
  pub all : List ℕ
  pub marks : List Bool
  pub room : ℕ

abbrev pub listing : List ℕ → List Bool → ℕ → Listing
listing all marks room = record { all = all; marks = marks; room = room }

-- whether the stretch of a place is marked
abbrev pub is_marked : Listing → ℕ → Bool
is_marked v p = slice_index_or v.marks (p / 256) false

-- the places of all attributes of the cells; and each stretch is marked that has an unprotected one, others may be too
pub record AreListed (v : Listing) (cells : List Cell) : Type 0 where
  pub all : Lists is_any v.all cells
  pub marked : (p : ℕ) → is_free (attribute_of (cell_at cells p)) ≡ true → is_marked v p ≡ true

-- so many positions from one on round the buffer have no attribute any more, the others the one that they had
abbrev pub LoseRound : ℕ → ℕ → ℕ → List Cell → List Cell → Type 0
LoseRound n b steps old new =
    (p : ℕ) → attribute_of (cell_at new p) ≡ (if is_round n b steps p then None else attribute_of (cell_at old p))

-- the first unprotected attribute from a position on; none where there is none
abbrev pub IsFirstFree : List Cell → ℕ → Option ℕ → Type 0
IsFirstFree cells from None = (r : ℕ) → from ≤ r → r < length cells → is_unprotected_attribute (cell_at cells r) ≡ false
IsFirstFree cells from (Some q) =
    (from ≤ q) × (q < length cells) × (is_unprotected_attribute (cell_at cells q) ≡ true)
    × ((r : ℕ) → from ≤ r → r < q → is_unprotected_attribute (cell_at cells r) ≡ false)

-- an unprotected attribute that a character follows
abbrev pub is_opening : List Cell → ℕ → Bool
is_opening cells q = is_character (cell_at cells (ring_on (length cells) q 1)) && is_unprotected_attribute (cell_at cells q)

-- one from a position on, and none between the two; none where there is none
abbrev pub IsFirstOpening : List Cell → ℕ → Option ℕ → Type 0
IsFirstOpening cells from None = (r : ℕ) → from ≤ r → r < length cells → is_opening cells r ≡ false
IsFirstOpening cells from (Some q) =
    (from ≤ q) × (q < length cells) × (is_opening cells q ≡ true) × ((r : ℕ) → from ≤ r → r < q → is_opening cells r ≡ false)
