-- For the code's own proofs: only functions within the crate cite this file, so no public contract rests on it.
-- What the code that writes answers goes by: cell after cell, and field after field.
use Rattle.std.specs.Prelude.{◌≡◌, ℕ, ◌<◌, ◌≤◌, Bool, true, false, ◌&&◌, nat_lt, List, [], ◌∷◌, map, length, Option, Some, None, if◌then◌else◌}
use Rattle.std.specs.List.{range_with_len, list_all}
use Rattle.ds_codec.specs.declared.cell.Cell.{Cell}
use Rattle.ds_codec.specs.declared.cell.Cell.TheVariants.{Field, Char}
use Rattle.ds_codec.specs.declared.size.Mode.{Mode}
use Rattle.ds_codec.specs.Aid.{is_aid, is_short_aid}
use Rattle.ds_codec.specs.Geometry.{limit_of}
use Rattle.ds_codec.specs.Character.{Glyph}
use Rattle.ds_screen.specs.declared.field.FieldAt.{FieldAt}
use Rattle.ds_screen.specs.Ring.{ring_on}
use Rattle.ds_screen.specs.Picture.{cell_at}
use Rattle.ds_screen.specs.Fields.{is_attribute, field_at}
use Rattle.ds_inbound.specs.Answer.{Sent, Answer, is_null}
use Rattle.ds_inbound.specs.Inbound.{is_sendable}

-- what is sent of a cell
abbrev pub sent_in : Cell → List Glyph
sent_in (Field bits) = []
sent_in (Char character) = if is_null character then [] else character ∷ []

-- so many places, from one on round the ring of n
abbrev pub places_on : ℕ → ℕ → ℕ → List ℕ
places_on n place count = map (ring_on n place) (range_with_len 0 count)

abbrev pub has_places : List ℕ → Bool
has_places [] = false
has_places (q ∷ places) = true

-- a place below so many cells, and characters that can be sent
abbrev pub is_field_sendable : ℕ → Sent → Bool
is_field_sendable cells field = nat_lt field.place cells && list_all is_sendable field.characters

-- a field of the buffer, as its attribute begins it
pub record IsFieldOf (cells : List Cell) (field : FieldAt) : Type 0 where
  pub inside : field.at < length cells
  pub there : is_attribute (cell_at cells field.at) ≡ true
  pub same : field ≡ field_at cells field.at

-- a cursor below so many cells; without one nothing but an attention identifier that is sent alone
abbrev pub HasGoodCursor : ℕ → Answer → Option ℕ → Type 0
HasGoodCursor cells answer None = (is_short_aid answer.aid ≡ true) × (answer.lead ≡ []) × (answer.fields ≡ [])
HasGoodCursor cells answer (Some cursor) = cursor < cells

-- an answer that a buffer of so many cells can send
pub record IsSendable (mode : Mode) (cells : ℕ) (answer : Answer) : Type 0 where
  pub few : cells ≤ limit_of mode
  pub aid : is_aid answer.aid ≡ true
  pub cursor : HasGoodCursor cells answer answer.cursor
  pub lead : list_all is_sendable answer.lead ≡ true
  pub fields : list_all (is_field_sendable cells) answer.fields ≡ true
