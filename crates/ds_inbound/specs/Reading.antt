-- Reading an answer from left to right, with the first fault that is met.
use Rattle.std.specs.Prelude.{◌≡◌, ℕ, zero, suc, ◌+◌, ◌-◌, nat_lt, ◌==◌, List, [], ◌∷◌, Option, Some, None, Result, Ok, Err, if◌then◌else◌}
use Rattle.ds_codec.specs.declared.size.Mode.{Mode}
use Rattle.ds_codec.specs.declared.order.OrderCode.TheVariants.{Sba}
use Rattle.ds_codec.specs.Address.{address_at}
use Rattle.ds_codec.specs.Aid.{is_aid, is_short_aid}
use Rattle.ds_codec.specs.Character.{Glyph}
use Rattle.ds_codec.specs.Order.{code_of}
use Rattle.ds_codec.specs.Reading.{◌>>=◌}
use Rattle.ds_inbound.specs.declared.refused.Refused.{Refused}
use Rattle.ds_inbound.specs.declared.refused.Why.{Why}
use Rattle.ds_inbound.specs.declared.refused.Why.TheVariants.{Empty, UnknownAid, Truncated, BadAddress}
use Rattle.ds_inbound.specs.declared.item.Item.{Item}
use Rattle.ds_inbound.specs.declared.item.Item.TheVariants as items
use Rattle.ds_inbound.specs.declared.field.FieldSlice.{FieldSlice}
use Rattle.ds_inbound.specs.Answer.{Sent, Answer, short_answer}
use Rattle.ds_inbound.specs.Characters.{front_character, characters_in}

-- ---- characters and fields

-- the position that an address tells, of so many
abbrev pub inside : ℕ → Option ℕ → Result ℕ Why
inside cells None = Err BadAddress
inside cells (Some address) = if nat_lt address cells then Ok address else Err BadAddress

-- the place behind the mark of a field
unfoldable pub place_at : Mode → ℕ → List ℕ → Result (Item × ℕ) Why
place_at mode cells [] = Err Truncated
place_at mode cells (first ∷ []) = Err Truncated
place_at mode cells (first ∷ second ∷ rest) = do
  place ← inside cells (address_at mode first second)
  Ok (items.Field place, 3)

abbrev pub as_item : Result (Glyph × ℕ) Why → Result (Item × ℕ) Why
as_item character = do
  found ← character
  Ok (items.Char found.0, found.1)

-- the character or the beginning of a field at the front, and how many bytes it takes
unfoldable pub front : Mode → ℕ → List ℕ → Result (Item × ℕ) Why
front mode cells [] = Err Truncated
front mode cells (byte ∷ more) =
    if byte == code_of Sba then place_at mode cells more else as_item (front_character (byte ∷ more))

-- what a fault of an item makes of an answer
abbrev pub fault_at : {A : Type 0} → ℕ → Result A Why → Result A Refused
fault_at at (Ok found) = Ok found
fault_at at (Err why) = Err (record { at = at; why = why })

-- characters before the first field, and fields
pub record Tail : Type 0 where
  pub lead : List Glyph
  pub fields : List Sent

abbrev pub no_tail : Tail
no_tail = record { lead = []; fields = [] }

-- an item before a tail: the characters behind the beginning of a field are the field's
abbrev pub before : Item → Tail → Tail
before (items.Char character) tail = record { lead = character ∷ tail.lead; fields = tail.fields }
before (items.Field place) tail = record { lead = []; fields = record { place = place; characters = tail.lead } ∷ tail.fields }

-- the characters and fields of the bytes, of which so many at the front belong to an item that was read
abbrev pub tail_from : Mode → ℕ → ℕ → ℕ → List ℕ → Result Tail Refused
tail_from mode cells skip at [] = Ok no_tail
tail_from mode cells (suc skip) at (byte ∷ rest) = tail_from mode cells skip (at + 1) rest
tail_from mode cells zero at (byte ∷ rest) = do
  first ← fault_at at (front mode cells (byte ∷ rest))
  others ← tail_from mode cells (first.1 - 1) (at + 1) rest
  Ok (before first.0 others)

-- the fields, where there are any
abbrev pub fields_of_tail : Result Tail Refused → List Sent
fields_of_tail (Ok tail) = tail.fields
fields_of_tail (Err e) = []

abbrev pub fields_in : Mode → ℕ → List ℕ → List Sent
fields_in mode cells bytes = fields_of_tail (tail_from mode cells 0 0 bytes)

-- the bytes are fields, with no characters before the first
abbrev pub AreFields : Mode → ℕ → List ℕ → Type 0
AreFields mode cells bytes = tail_from mode cells 0 0 bytes ≡ Ok (record { lead = []; fields = fields_in mode cells bytes })

-- a field as it lies in memory, and the field that it says
abbrev pub sent_of : FieldSlice → Sent
sent_of slice = record { place = slice.place; characters = characters_in slice.raw.now }

-- ---- the whole answer

-- what stands behind the cursor
abbrev pub long_body : Mode → ℕ → ℕ → ℕ → List ℕ → Result Answer Refused
long_body mode cells aid cursor body = do
  tail ← tail_from mode cells 0 3 body
  Ok (record { aid = aid; cursor = Some cursor; lead = tail.lead; fields = tail.fields })

abbrev pub long_of : Mode → ℕ → ℕ → Result ℕ Why → List ℕ → Result Answer Refused
long_of mode cells aid cursor body = do
  position ← fault_at 1 cursor
  long_body mode cells aid position body

-- what follows the attention identifier
unfoldable pub answer_after : Mode → ℕ → ℕ → List ℕ → Result Answer Refused
answer_after mode cells aid [] = if is_short_aid aid then Ok (short_answer aid) else Err (record { at = 1; why = Truncated })
answer_after mode cells aid (first ∷ []) = Err (record { at = 1; why = Truncated })
answer_after mode cells aid (first ∷ second ∷ body) = long_of mode cells aid (inside cells (address_at mode first second)) body

unfoldable pub read_of : Mode → ℕ → List ℕ → Result Answer Refused
read_of mode cells [] = Err (record { at = 0; why = Empty })
read_of mode cells (byte ∷ rest) = if is_aid byte then answer_after mode cells byte rest else Err (record { at = 0; why = UnknownAid })
