-- Orders, how each is spelled, and what can be wrong with one.
use Rattle.std.specs.Prelude.{◌≡◌, ℕ, ◌+◌, ◌*◌, ◌%◌, ◌<◌, ◌≤◌, Bool, true, false, ◌==◌, List, [], ◌∷◌, length, Option, Some, None, slice_index, take, if◌then◌else◌}
use Rattle.std.specs.List.{list_any, list_all, find}
use Rattle.ds_codec.specs.declared.size.Mode.{Mode}
use Rattle.ds_codec.specs.declared.refused.Why.{Why}
use Rattle.ds_codec.specs.declared.refused.Why.TheVariants.{UnknownOrder, Truncated, ReservedAddress, BadType, BadCharacter}
use Rattle.ds_codec.specs.declared.order.Order.{Order}
use Rattle.ds_codec.specs.declared.order.Order.TheVariants as orders
use Rattle.ds_codec.specs.declared.order.Placed.{Placed}
use Rattle.ds_codec.specs.declared.order.OrderCode.{OrderCode}
use Rattle.ds_codec.specs.declared.order.OrderCode.TheVariants.{Sf, Sfe, Sba, Sa, Mf, Ic, Pt, Ra, Eua, Ge}
use Rattle.ds_codec.specs.Address.{SpellsAddress, IsReserved}
use Rattle.ds_codec.specs.Character.{Glyph, glyph, is_text, is_graphic, is_glyph}

-- an order, apart from where its bytes lie in memory
pub data Item : Type 0 where
  text : (run : List ℕ) → Item
  start_field : (attribute : ℕ) → Item
  start_field_extended : (pairs : List ℕ) → Item
  set_buffer_address : (address : ℕ) → Item
  set_attribute : (kind value : ℕ) → Item
  modify_field : (pairs : List ℕ) → Item
  insert_cursor : Item
  program_tab : Item
  repeat_to_address : (address : ℕ) (character : Glyph) → Item
  erase_unprotected_to_address : (address : ℕ) → Item
  graphic_escape : (code : ℕ) → Item

abbrev pub item_of : Order → Item
item_of (orders.Text run) = text run.now
item_of (orders.Sf attribute) = start_field attribute
item_of (orders.Sfe pairs) = start_field_extended pairs.now
item_of (orders.Sba address) = set_buffer_address address
item_of (orders.Sa kind value) = set_attribute kind value
item_of (orders.Mf pairs) = modify_field pairs.now
item_of orders.Ic = insert_cursor
item_of orders.Pt = program_tab
item_of (orders.Ra address character) = repeat_to_address address character
item_of (orders.Eua address) = erase_unprotected_to_address address
item_of (orders.Ge code) = graphic_escape code

-- an order, and where its first byte stands in the record
pub record Site : Type 0 where
  pub at : ℕ
  pub order : Item

abbrev pub site_of : Placed → Site
site_of placed = record { at = placed.at; order = item_of placed.order }

-- the first byte of each order but text
abbrev pub code_of : OrderCode → ℕ
code_of Sf = 0x1D
code_of Sfe = 0x29
code_of Sba = 0x11
code_of Sa = 0x28
code_of Mf = 0x2C
code_of Ic = 0x13
code_of Pt = 0x05
code_of Ra = 0x3C
code_of Eua = 0x12
code_of Ge = 0x08

abbrev pub all_order_codes : List OrderCode
all_order_codes = Sf ∷ Sfe ∷ Sba ∷ Sa ∷ Mf ∷ Ic ∷ Pt ∷ Ra ∷ Eua ∷ Ge ∷ []

-- the order that a byte begins
unfoldable pub order_code_at : ℕ → Option OrderCode
order_code_at byte = find (λ code. code_of code == byte) all_order_codes

-- the types of the pairs of Start Field Extended and Modify Field: C0 is the field attribute
abbrev pub field_types : List ℕ
field_types = 0xC0 ∷ 0xC1 ∷ 0xC2 ∷ 0x41 ∷ 0x42 ∷ 0x43 ∷ 0x45 ∷ 0x46 ∷ []

unfoldable pub is_field_type : ℕ → Bool
is_field_type kind = list_any (λ t. t == kind) field_types

-- Set Attribute takes 00 too, which resets all, and these; that C0, C1 and C2 are among them is our own rule
unfoldable pub is_set_type : ℕ → Bool
is_set_type kind = list_any (λ t. t == kind) (0x00 ∷ field_types)

-- the types of a list of pairs: every other byte, from the first on
abbrev pub types_of : List ℕ → List ℕ
types_of [] = []
types_of (kind ∷ []) = kind ∷ []
types_of (kind ∷ value ∷ pairs) = kind ∷ types_of pairs

abbrev pub have_types : List ℕ → Bool
have_types pairs = list_all is_field_type (types_of pairs)

-- the first that there is
abbrev pub or_else : Option ℕ → Option ℕ → Option ℕ
or_else None other = other
or_else (Some value) other = Some value

-- the value of the last pair of type C0, in six bits
abbrev pub last_attribute : List ℕ → Option ℕ
last_attribute [] = None
last_attribute (kind ∷ []) = None
last_attribute (kind ∷ value ∷ pairs) = or_else (last_attribute pairs) (if kind == 0xC0 then Some (value % 64) else None)

-- a count of pairs, and the pairs; that there may be none is our own rule
abbrev pub SpellsPairs : List ℕ → List ℕ → Type 0
SpellsPairs pairs part = (count : ℕ) × (part ≡ count ∷ pairs) × (length pairs ≡ 2 * count) × (have_types pairs ≡ true)

-- a character of Repeat to Address: a text byte, or the graphic escape and a code
abbrev pub SpellsCharacter : Glyph → List ℕ → Type 0
SpellsCharacter character part =
    (is_glyph character ≡ true) × (part ≡ (if character.alt then code_of Ge ∷ character.code ∷ [] else character.code ∷ []))

-- the bytes spell the order
abbrev pub SpellsOrder : Mode → Item → List ℕ → Type 0
SpellsOrder mode (text run) part = (part ≡ run) × (0 < length run) × (list_all is_text run ≡ true)
SpellsOrder mode (start_field attribute) part = (byte : ℕ) × (part ≡ code_of Sf ∷ byte ∷ []) × (attribute ≡ byte % 64)
SpellsOrder mode (start_field_extended pairs) part = (rest : List ℕ) × (part ≡ code_of Sfe ∷ rest) × SpellsPairs pairs rest
SpellsOrder mode (set_buffer_address address) part =
    (first : ℕ) × (second : ℕ) × (part ≡ code_of Sba ∷ first ∷ second ∷ []) × SpellsAddress mode address first second
SpellsOrder mode (set_attribute kind value) part = (part ≡ code_of Sa ∷ kind ∷ value ∷ []) × (is_set_type kind ≡ true)
SpellsOrder mode (modify_field pairs) part = (rest : List ℕ) × (part ≡ code_of Mf ∷ rest) × SpellsPairs pairs rest
SpellsOrder mode insert_cursor part = part ≡ code_of Ic ∷ []
SpellsOrder mode program_tab part = part ≡ code_of Pt ∷ []
SpellsOrder mode (repeat_to_address address character) part =
    (first : ℕ) × (second : ℕ) × (rest : List ℕ) × (part ≡ code_of Ra ∷ first ∷ second ∷ rest)
    × SpellsAddress mode address first second × SpellsCharacter character rest
SpellsOrder mode (erase_unprotected_to_address address) part =
    (first : ℕ) × (second : ℕ) × (part ≡ code_of Eua ∷ first ∷ second ∷ []) × SpellsAddress mode address first second
SpellsOrder mode (graphic_escape code) part = (part ≡ code_of Ge ∷ code ∷ []) × (is_graphic code ≡ true)

-- how many bytes of an order follow its first, as those that are there tell
abbrev pub bytes_after : OrderCode → List ℕ → ℕ
bytes_after Sf more = 1
bytes_after Sfe more = 1 + 2 * slice_index more 0
bytes_after Sba more = 2
bytes_after Sa more = 2
bytes_after Mf more = 1 + 2 * slice_index more 0
bytes_after Ic more = 0
bytes_after Pt more = 0
bytes_after Ra more = if slice_index more 2 == code_of Ge then 4 else 3
bytes_after Eua more = 2
bytes_after Ge more = 1

-- no byte is missing
abbrev pub IsWhole : OrderCode → List ℕ → Type 0
IsWhole code more = bytes_after code more ≤ length more

-- the orders that begin with an address
abbrev pub has_address : OrderCode → Bool
has_address Sba = true
has_address Ra = true
has_address Eua = true
has_address _ = false

-- a type that is not known stands among the pairs, or in Set Attribute
abbrev pub HasBadType : OrderCode → List ℕ → Type 0
HasBadType Sfe (count ∷ rest) = have_types (take (2 * count) rest) ≡ false
HasBadType Mf (count ∷ rest) = have_types (take (2 * count) rest) ≡ false
HasBadType Sa (kind ∷ rest) = is_set_type kind ≡ false
HasBadType code more = ⊥

-- the character that bytes of Repeat to Address tell
abbrev pub character_at : List ℕ → Glyph
character_at [] = glyph 0 false
character_at (byte ∷ rest) = if byte == code_of Ge then glyph (slice_index rest 0) true else glyph byte false

-- the code of Graphic Escape, or the character of Repeat to Address, does not exist
abbrev pub HasBadCharacter : OrderCode → List ℕ → Type 0
HasBadCharacter Ge (code ∷ rest) = is_graphic code ≡ false
HasBadCharacter Ra (first ∷ second ∷ rest) = is_glyph (character_at rest) ≡ false
HasBadCharacter code more = ⊥

-- the address of an order that has one is of the reserved form
abbrev pub HasBadAddress : Mode → OrderCode → List ℕ → Type 0
HasBadAddress mode code more = (has_address code ≡ true) × IsReserved mode (slice_index more 0)

-- What is wrong with the order at the front, of which these bytes follow the first: a missing byte comes before
-- a bad one, and a bad address before a bad character.
abbrev pub FaultsAfter : Mode → Why → Option OrderCode → List ℕ → Type 0
FaultsAfter mode UnknownOrder None more = Unit {0}
FaultsAfter mode Truncated (Some code) more = length more < bytes_after code more
FaultsAfter mode ReservedAddress (Some code) more = IsWhole code more × HasBadAddress mode code more
FaultsAfter mode BadType (Some code) more = IsWhole code more × HasBadType code more
FaultsAfter mode BadCharacter (Some code) more = IsWhole code more × (HasBadAddress mode code more → ⊥) × HasBadCharacter code more
FaultsAfter mode why code more = ⊥

-- the bytes begin with neither text nor a good order
abbrev pub HasFault : Mode → Why → List ℕ → Type 0
HasFault mode why [] = ⊥
HasFault mode why (byte ∷ more) = (is_text byte ≡ false) × FaultsAfter mode why (order_code_at byte) more
