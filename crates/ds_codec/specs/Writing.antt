-- What is written for a command and orders, and which orders cannot be written.
use Rattle.std.specs.Prelude.{◌≡◌, ℕ, zero, suc, ◌/◌, ◌%◌, ◌<◌, Bool, true, false, ◌&&◌, not, nat_lt, nat_le, ◌==◌, List, [], ◌∷◌, ◌++◌, length, map, Option, Some, None, is_none, Ok, codes, slice_index_or, if◌then◌else◌}
use Rattle.std.specs.List.{list_all, flat_map}
use Rattle.ds_codec.specs.declared.size.Mode.{Mode}
use Rattle.ds_codec.specs.declared.command.Command.{Command}
use Rattle.ds_codec.specs.declared.write.Unwritable.{Unwritable}
use Rattle.ds_codec.specs.declared.write.Unwritable.TheVariants.{AddressOutside, BadText, BadPairs, BadCode, NotAllowed, OutOfMemory}
use Rattle.ds_codec.specs.declared.order.OrderCode.TheVariants.{Sf, Sfe, Sba, Sa, Mf, Ic, Pt, Ra, Eua, Ge}
use Rattle.ds_codec.specs.declared.order.Order.{Order}
use Rattle.ds_codec.specs.Address.{written_address, six_bit_code}
use Rattle.ds_codec.specs.Character.{Glyph, is_text, is_graphic, is_glyph}
use Rattle.ds_codec.specs.Command.{command_code_of, wcc_of, written_code}
use Rattle.ds_codec.specs.Order.{Item, item_of, text, start_field, start_field_extended, set_buffer_address, set_attribute, modify_field, insert_cursor, program_tab, repeat_to_address, erase_unprotected_to_address, graphic_escape, code_of, is_set_type, have_types}
use Rattle.ds_codec.specs.Record.{Message, is_text_order, SpellsRecord}
use Rattle.ds_codec.specs.Reading.{read_of}

abbrev pub items_of : List Order → List Item
items_of orders = map item_of orders

-- ---- which orders cannot be written

-- a run of text is not empty, is all text, and doesn't follow another
abbrev pub is_good_run : Bool → List ℕ → Bool
is_good_run after_text run = not after_text && (nat_lt 0 (length run) && list_all is_text run)

-- at most 255 whole pairs of known types
abbrev pub are_good_pairs : List ℕ → Bool
are_good_pairs pairs = (length pairs % 2 == 0) && (nat_le (length pairs) 510 && have_types pairs)

abbrev pub flaw_unless : Bool → Unwritable → Option Unwritable
flaw_unless good flaw = if good then None else Some flaw

-- what is wrong with the k-th order, for a buffer of so many cells
abbrev pub flaw_of : ℕ → Bool → Item → ℕ → Option Unwritable
flaw_of cells after_text (text run) k = flaw_unless (is_good_run after_text run) (BadText k)
flaw_of cells after_text (start_field attribute) k = None
flaw_of cells after_text (start_field_extended pairs) k = flaw_unless (are_good_pairs pairs) (BadPairs k)
flaw_of cells after_text (set_buffer_address address) k = flaw_unless (nat_lt address cells) (AddressOutside k)
flaw_of cells after_text (set_attribute kind value) k = flaw_unless (is_set_type kind) (BadPairs k)
flaw_of cells after_text (modify_field pairs) k = flaw_unless (are_good_pairs pairs) (BadPairs k)
flaw_of cells after_text insert_cursor k = None
flaw_of cells after_text program_tab k = None
flaw_of cells after_text (repeat_to_address address character) k = flaw_unless (nat_lt address cells) (AddressOutside k)
flaw_of cells after_text (erase_unprotected_to_address address) k = flaw_unless (nat_lt address cells) (AddressOutside k)
flaw_of cells after_text (graphic_escape code) k = flaw_unless (is_graphic code) (BadCode k)

-- past the end there is an order without a flaw
abbrev pub item_at : List Item → ℕ → Item
item_at items k = slice_index_or items k insert_cursor

-- whether the order before the k-th is text
abbrev pub follows_text : List Item → ℕ → Bool
follows_text items zero = false
follows_text items (suc k) = is_text_order (item_at items k)

abbrev pub flaw_at : ℕ → List Item → ℕ → Option Unwritable
flaw_at cells items k = flaw_of cells (follows_text items k) (item_at items k) k

-- no order has a flaw
abbrev pub HaveNoFlaw : ℕ → List Item → Type 0
HaveNoFlaw cells items = (k : ℕ) → flaw_at cells items k ≡ None

-- the flaw of the least order that has one
abbrev pub IsFirstFlaw : ℕ → List Item → Unwritable → Type 0
IsFirstFlaw cells items flaw = (k : ℕ) × (flaw_at cells items k ≡ Some flaw) × ((j : ℕ) → j < k → flaw_at cells items j ≡ None)

-- a command that carries no orders is given some
abbrev pub are_not_allowed : Command → List Item → Bool
are_not_allowed command items = is_none (wcc_of command) && nat_lt 0 (length items)

-- the command and orders can be written
abbrev pub IsWritable : ℕ → Command → List Item → Type 0
IsWritable cells command items = (are_not_allowed command items ≡ false) × HaveNoFlaw cells items

-- why they cannot, the command's reason first; memory can run out at any time
abbrev pub IsUnwritable : ℕ → Command → List Item → Unwritable → Type 0
IsUnwritable cells command items OutOfMemory = Unit {0}
IsUnwritable cells command items NotAllowed = are_not_allowed command items ≡ true
IsUnwritable cells command items flaw = (are_not_allowed command items ≡ false) × IsFirstFlaw cells items flaw

-- what the types of an attribute and of a character say
abbrev pub IsValidItem : Item → Type 0
IsValidItem (start_field attribute) = attribute < 64
IsValidItem (repeat_to_address address character) = is_glyph character ≡ true
IsValidItem order = Unit {0}

abbrev pub AreValid : List Item → Type 0
AreValid items = (k : ℕ) → IsValidItem (item_at items k)

-- the flaw of one order, unless memory ran out
abbrev pub IsFlawHere : Option Unwritable → Unwritable → Type 0
IsFlawHere found OutOfMemory = Unit {0}
IsFlawHere found flaw = found ≡ Some flaw

-- the first flaw of the orders, unless memory ran out
abbrev pub IsFlawAmong : ℕ → List Item → Unwritable → Type 0
IsFlawAmong cells items OutOfMemory = Unit {0}
IsFlawAmong cells items NotAllowed = ⊥
IsFlawAmong cells items flaw = IsFirstFlaw cells items flaw

abbrev pub flaw_words : Unwritable → List ℕ
flaw_words (AddressOutside k) = codes "U1 AddressOutside"
flaw_words (BadText k) = codes "U2 BadText"
flaw_words (BadPairs k) = codes "U3 BadPairs"
flaw_words (BadCode k) = codes "U4 BadCode"
flaw_words NotAllowed = codes "U5 NotAllowed"
flaw_words OutOfMemory = codes "out of memory"

-- ---- what is written

abbrev pub written_character : Glyph → List ℕ
written_character character = if character.alt then code_of Ge ∷ character.code ∷ [] else character.code ∷ []

abbrev pub written_order : Mode → ℕ → Item → List ℕ
written_order mode cells (text run) = run
written_order mode cells (start_field attribute) = code_of Sf ∷ six_bit_code attribute ∷ []
written_order mode cells (start_field_extended pairs) = code_of Sfe ∷ (length pairs / 2) ∷ pairs
written_order mode cells (set_buffer_address address) = code_of Sba ∷ written_address mode cells address
written_order mode cells (set_attribute kind value) = code_of Sa ∷ kind ∷ value ∷ []
written_order mode cells (modify_field pairs) = code_of Mf ∷ (length pairs / 2) ∷ pairs
written_order mode cells insert_cursor = code_of Ic ∷ []
written_order mode cells program_tab = code_of Pt ∷ []
written_order mode cells (repeat_to_address address character) = code_of Ra ∷ (written_address mode cells address ++ written_character character)
written_order mode cells (erase_unprotected_to_address address) = code_of Eua ∷ written_address mode cells address
written_order mode cells (graphic_escape code) = code_of Ge ∷ code ∷ []

abbrev pub written_rest : Mode → ℕ → Option ℕ → List Item → List ℕ
written_rest mode cells None items = []
written_rest mode cells (Some wcc) items = wcc ∷ flat_map (written_order mode cells) items

abbrev pub written_record : Mode → ℕ → Command → List Item → List ℕ
written_record mode cells command items = written_code (command_code_of command) ∷ written_rest mode cells (wcc_of command) items

-- what a record says again of what was written
abbrev pub orders_in : Message → List Item
orders_in message = map (λ site. site.order) message.orders

-- read again, it is the same command with the same orders
abbrev pub IsReadAgain : Mode → Command → List Item → List ℕ → Type 0
IsReadAgain mode command items bytes =
    (message : Message) × (read_of mode bytes ≡ Ok message) × SpellsRecord mode message bytes × (message.command ≡ command) × (orders_in message ≡ items)
