-- The inbound grammar: what an answer's bytes say, and the leftmost fault of an answer. Each part is told as 'the bytes
-- are this, then a rest'.
use Rattle.std.specs.Prelude.{◌≡◌, ℕ, ◌+◌, ◌<◌, ◌≤◌, ◌⊎◌, Bool, true, false, not, ◌&&◌, List, [], ◌∷◌, length, take, drop, Option, Some, None, if◌then◌else◌}
use Rattle.ds_codec.specs.declared.size.Mode.{Mode}
use Rattle.ds_codec.specs.declared.order.OrderCode.TheVariants.{Sba, Ge}
use Rattle.ds_codec.specs.Address.{SpellsAddress, IsReserved}
use Rattle.ds_codec.specs.Aid.{is_aid, is_short_aid}
use Rattle.ds_codec.specs.Character.{Glyph, is_text, is_graphic, is_glyph}
use Rattle.ds_codec.specs.Order.{code_of}
use Rattle.ds_inbound.specs.declared.refused.Why.{Why}
use Rattle.ds_inbound.specs.declared.refused.Why.TheVariants.{Empty, UnknownAid, Truncated, BadAddress, BadCharacter, Null}
use Rattle.ds_inbound.specs.Answer.{Sent, Answer, is_null, written_characters}

-- a character that can be sent: any but the null
abbrev pub is_sendable : Glyph → Bool
is_sendable character = is_glyph character && not (is_null character)

-- a character and then a rest: its code, behind the graphic escape where it is of the alternate set
abbrev pub IsGlyphThen : Glyph → List ℕ → List ℕ → Type 0
IsGlyphThen character bytes rest =
    (is_sendable character ≡ true)
    × (bytes ≡ (if character.alt then code_of Ge ∷ character.code ∷ rest else character.code ∷ rest))

-- characters, one after the other, and then a rest
abbrev pub AreGlyphsThen : List Glyph → List ℕ → List ℕ → Type 0
AreGlyphsThen [] bytes rest = bytes ≡ rest
AreGlyphsThen (character ∷ characters) bytes rest =
    (more : List ℕ) × IsGlyphThen character bytes more × AreGlyphsThen characters more rest

-- an address of a buffer of so many cells, in any form, and then a rest
abbrev pub IsAddressThen : Mode → ℕ → ℕ → List ℕ → List ℕ → Type 0
IsAddressThen mode cells address bytes rest =
    (first : ℕ) × (second : ℕ) × (bytes ≡ first ∷ second ∷ rest) × SpellsAddress mode address first second × (address < cells)

-- a field: its mark, its place, its characters, and then a rest
abbrev pub IsFieldThen : Mode → ℕ → Sent → List ℕ → List ℕ → Type 0
IsFieldThen mode cells field bytes rest =
    (marked : List ℕ) × (raw : List ℕ) × (bytes ≡ code_of Sba ∷ marked) × IsAddressThen mode cells field.place marked raw
    × AreGlyphsThen field.characters raw rest

abbrev pub AreFieldsThen : Mode → ℕ → List Sent → List ℕ → List ℕ → Type 0
AreFieldsThen mode cells [] bytes rest = bytes ≡ rest
AreFieldsThen mode cells (field ∷ fields) bytes rest =
    (more : List ℕ) × IsFieldThen mode cells field bytes more × AreFieldsThen mode cells fields more rest

-- characters before the first field, fields, and then a rest
abbrev pub IsTailThen : Mode → ℕ → List Glyph → List Sent → List ℕ → List ℕ → Type 0
IsTailThen mode cells lead fields bytes rest =
    (more : List ℕ) × AreGlyphsThen lead bytes more × AreFieldsThen mode cells fields more rest

-- What follows the attention identifier: nothing, after one that is sent alone; or the cursor, characters and fields.
abbrev pub SpellsAfter : Mode → ℕ → ℕ → Option ℕ → List Glyph → List Sent → List ℕ → Type 0
SpellsAfter mode cells aid None lead fields bytes = (is_short_aid aid ≡ true) × (lead ≡ []) × (fields ≡ []) × (bytes ≡ [])
SpellsAfter mode cells aid (Some cursor) lead fields bytes =
    (body : List ℕ) × IsAddressThen mode cells cursor bytes body × IsTailThen mode cells lead fields body []

-- the bytes say the answer
abbrev pub SpellsInbound : Mode → ℕ → Answer → List ℕ → Type 0
SpellsInbound mode cells answer bytes =
    (rest : List ℕ) × (bytes ≡ answer.aid ∷ rest) × (is_aid answer.aid ≡ true)
    × SpellsAfter mode cells answer.aid answer.cursor answer.lead answer.fields rest

-- no bytes say two answers
abbrev pub HasOneAnswer : Type 0
HasOneAnswer =
    (mode : Mode) (cells : ℕ) (bytes : List ℕ) (answer other : Answer) → SpellsInbound mode cells answer bytes
    → SpellsInbound mode cells other bytes → answer ≡ other

-- the bytes say this answer and no other
abbrev pub SaysOnly : Mode → ℕ → Answer → List ℕ → Type 0
SaysOnly mode cells answer bytes =
    SpellsInbound mode cells answer bytes × ((other : Answer) → SpellsInbound mode cells other bytes → other ≡ answer)

-- ---- faults

-- two bytes spell no address, or one that is not of the buffer
abbrev pub IsBadAddress : Mode → ℕ → ℕ → ℕ → Type 0
IsBadAddress mode cells first second =
    IsReserved mode first ⊎ ((address : ℕ) × SpellsAddress mode address first second × (cells ≤ address))

-- What is wrong with the item at the front, of which these bytes follow the first: with the mark of a field and its
-- place, with a pair of the graphic escape and a code, with a null, with any other byte.
abbrev pub HasFault : Mode → ℕ → Why → List ℕ → Type 0
HasFault mode cells Truncated bytes =
    (bytes ≡ code_of Sba ∷ []) ⊎ (((first : ℕ) × (bytes ≡ code_of Sba ∷ first ∷ [])) ⊎ (bytes ≡ code_of Ge ∷ []))
HasFault mode cells BadAddress bytes =
    (first : ℕ) × (second : ℕ) × (rest : List ℕ) × (bytes ≡ code_of Sba ∷ first ∷ second ∷ rest) × IsBadAddress mode cells first second
HasFault mode cells BadCharacter bytes =
    ((code : ℕ) × (rest : List ℕ) × (bytes ≡ code_of Ge ∷ code ∷ rest) × (is_graphic code ≡ false))
    ⊎ ((byte : ℕ) × (rest : List ℕ) × (bytes ≡ byte ∷ rest) × (is_text byte ≡ false) × (byte ≡ code_of Sba → ⊥) × (byte ≡ code_of Ge → ⊥))
HasFault mode cells Null bytes = (rest : List ℕ) × (bytes ≡ 0x00 ∷ rest)
HasFault mode cells why bytes = ⊥

-- an attention identifier and a cursor, whole characters and fields, and then the fault
abbrev pub FaultsAt : Mode → ℕ → Why → List ℕ → ℕ → Type 0
FaultsAt mode cells why bytes at =
    (aid : ℕ) × (after : List ℕ) × (cursor : ℕ) × (body : List ℕ) × (lead : List Glyph) × (fields : List Sent) × (rest : List ℕ)
    × (bytes ≡ aid ∷ after) × (is_aid aid ≡ true) × IsAddressThen mode cells cursor after body
    × IsTailThen mode cells lead fields body rest × (at + length rest ≡ length bytes) × HasFault mode cells why rest

-- an attention identifier, and an address of the cursor that is missing in part, or all of it where it cannot be
abbrev pub IsCut : List ℕ → ℕ → Type 0
IsCut bytes at =
    (at ≡ 1) × (aid : ℕ) × (is_aid aid ≡ true)
    × (((bytes ≡ aid ∷ []) × (is_short_aid aid ≡ false)) ⊎ ((first : ℕ) × (bytes ≡ aid ∷ first ∷ [])))

-- an attention identifier, and two bytes that spell no position of the cursor
abbrev pub IsLost : Mode → ℕ → List ℕ → ℕ → Type 0
IsLost mode cells bytes at =
    (at ≡ 1) × (aid : ℕ) × (first : ℕ) × (second : ℕ) × (body : List ℕ) × (bytes ≡ aid ∷ first ∷ second ∷ body) × (is_aid aid ≡ true)
    × IsBadAddress mode cells first second

-- what stands before this place is good, and here is this fault
abbrev pub IsRefusedAt : Mode → ℕ → List ℕ → ℕ → Why → Type 0
IsRefusedAt mode cells bytes at Empty = (at ≡ 0) × (bytes ≡ [])
IsRefusedAt mode cells bytes at UnknownAid = (at ≡ 0) × (byte : ℕ) × (rest : List ℕ) × (bytes ≡ byte ∷ rest) × (is_aid byte ≡ false)
IsRefusedAt mode cells bytes at Truncated = IsCut bytes at ⊎ FaultsAt mode cells Truncated bytes at
IsRefusedAt mode cells bytes at BadAddress = IsLost mode cells bytes at ⊎ FaultsAt mode cells BadAddress bytes at
IsRefusedAt mode cells bytes at why = FaultsAt mode cells why bytes at

-- ---- where the parts lie

-- the bytes of each field's characters stand behind its mark and its place, and behind them the next field
abbrev pub LieFrom : List ℕ → List Sent → Type 0
LieFrom rest [] = rest ≡ []
LieFrom rest (field ∷ fields) =
    (take (length (written_characters field.characters)) (drop 3 rest) ≡ written_characters field.characters)
    × LieFrom (drop (length (written_characters field.characters)) (drop 3 rest)) fields

-- the bytes of the lead stand behind the attention identifier and the cursor, and behind them the fields
abbrev pub IsLaidOut : List ℕ → Answer → Type 0
IsLaidOut bytes answer =
    (take (length (written_characters answer.lead)) (drop 3 bytes) ≡ written_characters answer.lead)
    × LieFrom (drop (length (written_characters answer.lead)) (drop 3 bytes)) answer.fields
