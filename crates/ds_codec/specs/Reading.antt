-- Reading a record from left to right, with the first fault that is met.
use Rattle.std.specs.Prelude.{◌≡◌, ℕ, zero, suc, ◌+◌, ◌-◌, ◌*◌, ◌%◌, nat_lt, ◌==◌, List, [], ◌∷◌, length, take, Option, Some, None, Result, Ok, Err, true, false, if◌then◌else◌}
use Rattle.std.specs.List.{prefix_len}
use Rattle.ds_codec.specs.declared.size.Mode.{Mode}
use Rattle.ds_codec.specs.declared.command.Command.{Command}
use Rattle.ds_codec.specs.declared.command.Command.TheVariants as command
use Rattle.ds_codec.specs.declared.command.CommandCode.{CommandCode}
use Rattle.ds_codec.specs.declared.command.CommandCode.TheVariants as code
use Rattle.ds_codec.specs.declared.order.OrderCode.{OrderCode}
use Rattle.ds_codec.specs.declared.order.OrderCode.TheVariants.{Sf, Sfe, Sba, Sa, Mf, Ic, Pt, Ra, Eua, Ge}
use Rattle.ds_codec.specs.declared.refused.Refused.{Refused}
use Rattle.ds_codec.specs.declared.refused.Why.{Why}
use Rattle.ds_codec.specs.declared.refused.Why.TheVariants.{Empty, UnknownCommand, StructuredField, NoWcc, UnknownOrder, Truncated, ReservedAddress, BadType, BadCharacter, Trailing}
use Rattle.ds_codec.specs.Address.{address_at}
use Rattle.ds_codec.specs.Character.{Glyph, glyph, is_text, is_graphic, is_glyph}
use Rattle.ds_codec.specs.Command.{command_code_at}
use Rattle.ds_codec.specs.declared.order.Order.{Order}
use Rattle.ds_codec.specs.Order.{Item, item_of, text, start_field, start_field_extended, set_buffer_address, set_attribute, modify_field, insert_cursor, program_tab, repeat_to_address, erase_unprotected_to_address, graphic_escape, Site, code_of, order_code_at, is_set_type, have_types}
use Rattle.ds_codec.specs.Record.{Message}

-- an order and how many bytes it takes, or what is wrong with it
abbrev pub Front : Type 0
Front = Result (Item × ℕ) Why

-- what a function returned, seen by view, is this
abbrev pub Gives : {A B E : Type 0} → (A → B) → Result A E → Result B E → Type 0
Gives view (Ok found) read = read ≡ Ok (view found)
Gives view (Err e) read = read ≡ Err e

abbrev pub Reads : Result (Order × ℕ) Why → Front → Type 0
Reads found front = Gives (λ x. (item_of x.0, x.1)) found front

infixl 10 ◌>>=◌
abbrev pub ◌>>=◌ : {A B E : Type 0} → Result A E → (A → Result B E) → Result B E
(Ok x) >>= f = f x
(Err e) >>= f = Err e

-- an address, and what it makes
abbrev pub with_address : Option ℕ → (ℕ → Front) → Front
with_address None make = Err ReservedAddress
with_address (Some address) make = make address

unfoldable pub start_field_at : List ℕ → Front
start_field_at [] = Err Truncated
start_field_at (byte ∷ rest) = Ok (start_field (byte % 64), 2)

-- a count of pairs, and the pairs
unfoldable pub pairs_at : (List ℕ → Item) → List ℕ → Front
pairs_at make [] = Err Truncated
pairs_at make (count ∷ rest) =
    if nat_lt (length rest) (2 * count) then Err Truncated
    else (if have_types (take (2 * count) rest) then Ok (make (take (2 * count) rest), 2 + 2 * count) else Err BadType)

-- an address alone
unfoldable pub address_order_at : Mode → (ℕ → Item) → List ℕ → Front
address_order_at mode make [] = Err Truncated
address_order_at mode make (first ∷ []) = Err Truncated
address_order_at mode make (first ∷ second ∷ rest) = with_address (address_at mode first second) (λ address. Ok (make address, 3))

unfoldable pub set_attribute_at : List ℕ → Front
set_attribute_at [] = Err Truncated
set_attribute_at (kind ∷ []) = Err Truncated
set_attribute_at (kind ∷ value ∷ rest) = if is_set_type kind then Ok (set_attribute kind value, 3) else Err BadType

-- the character, of so many bytes in all
abbrev pub repeat_of : Option ℕ → Glyph → ℕ → Front
repeat_of address character taken =
    with_address address (λ stop. if is_glyph character then Ok (repeat_to_address stop character, taken) else Err BadCharacter)

abbrev pub repeat_escaped : Option ℕ → List ℕ → Front
repeat_escaped address [] = Err Truncated
repeat_escaped address (code ∷ rest) = repeat_of address (glyph code true) 5

unfoldable pub repeat_at : Mode → List ℕ → Front
repeat_at mode [] = Err Truncated
repeat_at mode (first ∷ []) = Err Truncated
repeat_at mode (first ∷ second ∷ []) = Err Truncated
repeat_at mode (first ∷ second ∷ byte ∷ rest) =
    if byte == code_of Ge then repeat_escaped (address_at mode first second) rest
    else repeat_of (address_at mode first second) (glyph byte false) 4

unfoldable pub graphic_escape_at : List ℕ → Front
graphic_escape_at [] = Err Truncated
graphic_escape_at (code ∷ rest) = if is_graphic code then Ok (graphic_escape code, 2) else Err BadCharacter

-- the order of a code, of which these bytes follow
abbrev pub order_after : Mode → Option OrderCode → List ℕ → Front
order_after mode None more = Err UnknownOrder
order_after mode (Some Sf) more = start_field_at more
order_after mode (Some Sfe) more = pairs_at start_field_extended more
order_after mode (Some Sba) more = address_order_at mode set_buffer_address more
order_after mode (Some Sa) more = set_attribute_at more
order_after mode (Some Mf) more = pairs_at modify_field more
order_after mode (Some Ic) more = Ok (insert_cursor, 1)
order_after mode (Some Pt) more = Ok (program_tab, 1)
order_after mode (Some Ra) more = repeat_at mode more
order_after mode (Some Eua) more = address_order_at mode erase_unprotected_to_address more
order_after mode (Some Ge) more = graphic_escape_at more

-- the run of text at the front
abbrev pub text_at : List ℕ → Front
text_at bytes = Ok (text (take (prefix_len is_text bytes) bytes), prefix_len is_text bytes)

-- the order at the front
unfoldable pub front : Mode → List ℕ → Front
front mode [] = Err Truncated
front mode (byte ∷ more) = if is_text byte then text_at (byte ∷ more) else order_after mode (order_code_at byte) more

-- what a fault of an order makes of a record
abbrev pub placed : {A : Type 0} → ℕ → Result A Why → Result A Refused
placed at (Ok found) = Ok found
placed at (Err why) = Err (record { at = at; why = why })

-- the orders of the bytes, of which so many at the front belong to an order that was read
abbrev pub orders_from : Mode → ℕ → ℕ → List ℕ → Result (List Site) Refused
orders_from mode skip at [] = Ok []
orders_from mode (suc skip) at (byte ∷ rest) = orders_from mode skip (at + 1) rest
orders_from mode zero at (byte ∷ rest) = do
  first ← placed at (front mode (byte ∷ rest))
  others ← orders_from mode (first.1 - 1) (at + 1) rest
  Ok (record { at = at; order = first.0 } ∷ others)

-- the orders, where there are any
abbrev pub sites_in : Result (List Site) Refused → List Site
sites_in (Ok sites) = sites
sites_in (Err e) = []

-- the refusal, where there is one
abbrev pub refusal_in : {A E : Type 0} → Result A E → Option E
refusal_in (Ok found) = None
refusal_in (Err e) = Some e

-- a command, and the orders of these bytes
abbrev pub message_of : Mode → Command → List ℕ → Message
message_of mode command bytes = record { command = command; orders = sites_in (orders_from mode 0 2 bytes) }

-- a write control character, and orders
abbrev pub write_body : Mode → (ℕ → Command) → List ℕ → Result Message Refused
write_body mode make [] = Err (record { at = 1; why = NoWcc })
write_body mode make (wcc ∷ more) = do
  orders ← orders_from mode 0 2 more
  Ok (record { command = make wcc; orders = orders })

-- nothing
abbrev pub alone_body : Command → List ℕ → Result Message Refused
alone_body command [] = Ok (record { command = command; orders = [] })
alone_body command (byte ∷ rest) = Err (record { at = 1; why = Trailing })

-- what follows the code of a command
abbrev pub body_of : Mode → Option CommandCode → List ℕ → Result Message Refused
body_of mode None rest = Err (record { at = 0; why = UnknownCommand })
body_of mode (Some code.WriteStructuredField) rest = Err (record { at = 0; why = StructuredField })
body_of mode (Some code.Write) rest = write_body mode (λ wcc. command.Write wcc) rest
body_of mode (Some code.EraseWrite) rest = write_body mode (λ wcc. command.EraseWrite wcc) rest
body_of mode (Some code.EraseWriteAlternate) rest = write_body mode (λ wcc. command.EraseWriteAlternate wcc) rest
body_of mode (Some code.EraseAllUnprotected) rest = alone_body command.EraseAllUnprotected rest
body_of mode (Some code.ReadBuffer) rest = alone_body command.ReadBuffer rest
body_of mode (Some code.ReadModified) rest = alone_body command.ReadModified rest
body_of mode (Some code.ReadModifiedAll) rest = alone_body command.ReadModifiedAll rest
body_of mode (Some code.NoOperation) rest = alone_body command.NoOperation rest

unfoldable pub read_of : Mode → List ℕ → Result Message Refused
read_of mode [] = Err (record { at = 0; why = Empty })
read_of mode (byte ∷ rest) = body_of mode (command_code_at byte) rest
