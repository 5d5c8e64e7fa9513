-- What a line of words says: a command or an order.
use Rattle.std.specs.Prelude.{ℕ, Bool, true, false, nat_lt, List, [], ◌∷◌, codes, Option, Some, None, option_and_then, Result, Ok, Err, if◌then◌else◌}
use Rattle.std.specs.Option.{option_map}
use Rattle.std.specs.Str.{bytes_eq}
use Rattle.hex.specs.Hex.{decode_of}
use Rattle.hex.specs.declared.error.FromHexError.{FromHexError}
use Rattle.ds_codec.specs.declared.command.Command.{Command}
use Rattle.ds_codec.specs.declared.command.Command.TheVariants as commands
use Rattle.ds_codec.specs.Character.{Glyph, glyph, is_glyph}
use Rattle.ds_codec.specs.Order.{Item, text, start_field, start_field_extended, set_buffer_address, set_attribute, modify_field, insert_cursor, program_tab, repeat_to_address, erase_unprotected_to_address, graphic_escape}
use Rattle.order_lines.specs.Words.{on_word, byte_told, pair_told, pairs_told, number_told, cut_at}
use Rattle.order_lines.specs.declared.owned_order.OwnedOrder.{OwnedOrder}
use Rattle.order_lines.specs.declared.owned_order.OwnedOrder.TheVariants.{Text, Sf, Sfe, Sba, Sa, Mf, Ic, Pt, Ra, Eua, Ge}
use Rattle.order_lines.specs.declared.told.Told as seen
use Rattle.order_lines.specs.declared.told.Told.TheVariants.{Command as CommandSeen, Order as OrderSeen}

-- what a line is, where it is the whole of this word
abbrev pub on_line : {A : Type 0} → List ℕ → List ℕ → A → Option A → Option A
on_line word line found others = if bytes_eq line word then Some found else others

-- ---- commands

-- the writes carry a write control character
abbrev pub write_told : List ℕ → Option Command
write_told line =
    on_word (codes "W ") line (λ rest. option_map (λ wcc. commands.Write wcc) (byte_told rest))
    (on_word (codes "EW ") line (λ rest. option_map (λ wcc. commands.EraseWrite wcc) (byte_told rest))
    (on_word (codes "EWA ") line (λ rest. option_map (λ wcc. commands.EraseWriteAlternate wcc) (byte_told rest))
    None))

-- the others stand alone
abbrev pub alone_told : List ℕ → Option Command
alone_told line =
    on_line (codes "EAU") line commands.EraseAllUnprotected
    (on_line (codes "RB") line commands.ReadBuffer
    (on_line (codes "RM") line commands.ReadModified
    (on_line (codes "RMA") line commands.ReadModifiedAll
    (on_line (codes "NOP") line commands.NoOperation
    None))))

-- ---- orders

-- six bits
abbrev pub attribute_from : Option ℕ → Option Item
attribute_from (Some bits) = if nat_lt bits 64 then Some (start_field bits) else None
attribute_from None = None

abbrev pub set_from : Option (ℕ × ℕ) → Option Item
set_from (Some pair) = Some (set_attribute pair.0 pair.1)
set_from None = None

-- a character that exists
abbrev pub character_from : Bool → Option ℕ → Option Glyph
character_from alt (Some code) = if is_glyph (glyph code alt) then Some (glyph code alt) else None
character_from alt None = None

-- a text byte, or GE and a code
abbrev pub character_told : List ℕ → Option Glyph
character_told words = on_word (codes "GE ") words (λ code. character_from true (byte_told code)) (character_from false (byte_told words))

abbrev pub repeat_from : Option ℕ → Option Glyph → Option Item
repeat_from (Some address) (Some character) = Some (repeat_to_address address character)
repeat_from address character = None

-- an address, a space, and a character
abbrev pub repeat_told : List ℕ → Option Item
repeat_told rest = option_and_then (λ parts. repeat_from (number_told parts.0) (character_told parts.1)) (cut_at 0x20 rest)

-- a text has a byte at least
abbrev pub text_from : Result (List ℕ) FromHexError → Option Item
text_from (Ok []) = None
text_from (Ok (byte ∷ bytes)) = Some (text (byte ∷ bytes))
text_from (Err e) = None

-- the orders with an address
unfoldable pub address_told : List ℕ → Option Item
address_told line =
    on_word (codes "SBA ") line (λ rest. option_map set_buffer_address (number_told rest))
    (on_word (codes "EUA ") line (λ rest. option_map erase_unprotected_to_address (number_told rest))
    (on_word (codes "RA ") line repeat_told
    None))

-- and the others of a few bytes
unfoldable pub short_told : List ℕ → Option Item
short_told line =
    on_word (codes "SF ") line (λ rest. attribute_from (byte_told rest))
    (on_word (codes "SA ") line (λ rest. set_from (pair_told rest))
    (on_word (codes "GE ") line (λ rest. option_map graphic_escape (byte_told rest))
    (on_line (codes "IC") line insert_cursor
    (on_line (codes "PT") line program_tab
    (address_told line)))))

-- and those that carry any number of bytes
unfoldable pub order_told : List ℕ → Option Item
order_told line =
    on_word (codes "TEXT ") line (λ rest. text_from (decode_of rest))
    (on_word (codes "SFE") line (λ rest. option_map start_field_extended (pairs_told rest))
    (on_word (codes "MF") line (λ rest. option_map modify_field (pairs_told rest))
    (short_told line)))

-- ---- lines

pub data Told : Type 0 where
  command : (told : Command) → Told
  order : (told : Item) → Told

abbrev pub first_told : Option Command → Option Item → Option Told
first_told (Some told) others = Some (command told)
first_told None (Some told) = Some (order told)
first_told None None = None

-- the command of a line
abbrev pub other_command : Option Command → Option Command → Option Command
other_command (Some told) others = Some told
other_command None others = others

unfoldable pub command_told : List ℕ → Option Command
command_told line = other_command (write_told line) (alone_told line)

-- the command or the order that a line says
abbrev pub told_of : List ℕ → Option Told
told_of line = first_told (command_told line) (order_told line)

-- ---- as they are held

abbrev pub item_held : OwnedOrder → Item
item_held (Text run) = text run.items
item_held (Sf attribute) = start_field attribute
item_held (Sfe pairs) = start_field_extended pairs.items
item_held (Sba address) = set_buffer_address address
item_held (Sa kind value) = set_attribute kind value
item_held (Mf pairs) = modify_field pairs.items
item_held Ic = insert_cursor
item_held Pt = program_tab
item_held (Ra address character) = repeat_to_address address character
item_held (Eua address) = erase_unprotected_to_address address
item_held (Ge code) = graphic_escape code

abbrev pub told_held : seen.Told → Told
told_held (CommandSeen told) = command told
told_held (OrderSeen told) = order (item_held told)
