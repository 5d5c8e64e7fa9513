-- The record of a map, as the orders that it is.
use Rattle.std.specs.Prelude.{◌≡◌, ◌⊎◌, ℕ, ◌+◌, ◌*◌, ◌/◌, ◌%◌, ◌==◌, Bool, true, false, List, [], ◌∷◌, ◌++◌, Option, Some, None, Result, Ok, Err, if◌then◌else◌}
use Rattle.std.specs.List.{flat_map}
use Rattle.std.specs.Global.{Vec}
use Rattle.ds_codec.specs.Address.{six_bit_code}
use Rattle.ds_codec.specs.declared.size.Mode.TheVariants.{Bits14}
use Rattle.ds_codec.specs.declared.command.Command.{Command}
use Rattle.ds_codec.specs.declared.command.Command.TheVariants.{EraseWrite, EraseWriteAlternate}
use Rattle.ds_codec.specs.declared.write.Unwritable.{Unwritable}
use Rattle.ds_codec.specs.declared.write.Unwritable.TheVariants.{OutOfMemory}
use Rattle.ds_codec.specs.Order.{Item, text, start_field, start_field_extended, set_buffer_address, insert_cursor}
use Rattle.order_lines.specs.Draft.{written_of}
use Rattle.bms_map.specs.Maps.{LaterText, Shown, Sheet, default_rows}
use Rattle.bms_map.specs.declared.record.Control.{Control}

-- a text of no character is no order
abbrev pub text_orders : List ℕ → List Item
text_orders [] = []
text_orders (code ∷ codes) = text (code ∷ codes) ∷ []

-- Start Field says an attribute alone, Start Field Extended one with its pairs
abbrev pub attribute_order : ℕ → List ℕ → Item
attribute_order attribute [] = start_field attribute
attribute_order attribute (byte ∷ pairs) = start_field_extended (byte ∷ pairs)

-- the cursor is inserted behind the attribute of the field that has it
abbrev pub cursor_orders : Option ℕ → ℕ → List Item
cursor_orders None cell = []
cursor_orders (Some at) cell = if at == cell then insert_cursor ∷ [] else []

-- a later field of a group: its text alone, at its place
abbrev pub later_orders : LaterText → List Item
later_orders later = set_buffer_address later.cell ∷ text_orders later.text

-- where an attribute stands, its six bits, the cursor, its text, and the texts of the other fields of its group
abbrev pub parts_orders : Option ℕ → ℕ → ℕ → List ℕ → List ℕ → List LaterText → List Item
parts_orders cursor cell attribute pairs characters later =
    set_buffer_address cell ∷ attribute_order (attribute % 64) pairs ∷ cursor_orders cursor cell ++ text_orders characters ++ flat_map later_orders later

abbrev pub field_orders : Option ℕ → Shown → List Item
field_orders cursor field = parts_orders cursor field.cell field.attribute field.pairs field.text field.later

abbrev pub map_orders : Sheet → List Item
map_orders map = flat_map (field_orders map.cursor) map.fields

-- a bit is set
abbrev pub with_bit : Bool → ℕ → ℕ → ℕ
with_bit false bit bits = bits
with_bit true bit bits = if bits / bit % 2 == 0 then bits + bit else bits

-- 02 restores the keyboard, 01 resets the modified data tags
abbrev pub control_bits : ℕ → Control → ℕ
control_bits bits control = with_bit control.reset_modified 1 (with_bit control.free_keyboard 2 bits)

-- a map of the default screen's lines is shown there, another on the alternate one
abbrev pub command_of : Sheet → Control → Command
command_of map control =
    if map.area.screen.rows == default_rows then EraseWrite (six_bit_code (control_bits map.control control))
    else EraseWriteAlternate (six_bit_code (control_bits map.control control))

-- the bytes of exactly these orders, for the map's screen; or why they can't be written; or memory was refused
abbrev pub IsRecordOf : Sheet → Control → Result (Vec ℕ) Unwritable → Type 0
IsRecordOf map control (Ok bytes) =
    written_of Bits14 (map.area.screen.rows * map.area.screen.cols) (record { command = command_of map control; orders = map_orders map }) ≡ Ok bytes.items
IsRecordOf map control (Err flaw) =
    (flaw ≡ OutOfMemory)
    ⊎ (written_of Bits14 (map.area.screen.rows * map.area.screen.cols) (record { command = command_of map control; orders = map_orders map }) ≡ Err flaw)
