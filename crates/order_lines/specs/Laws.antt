-- Laws on what is printed, told and written.
use Rattle.std.specs.Prelude.{◌≡◌, ℕ, ◌<◌, ◌≤◌, Bool, true, ◌&&◌, nat_le, nat_lt, List, [], ◌∷◌, Some, Ok}
use Rattle.std.specs.List.{list_all}
use Rattle.hex.specs.Hex.{IsBytes}
use Rattle.ds_codec.specs.declared.size.Mode.{Mode}
use Rattle.ds_codec.specs.Geometry.{limit_of}
use Rattle.ds_codec.specs.Order.{Item, set_buffer_address, repeat_to_address, erase_unprotected_to_address, Site}
use Rattle.ds_codec.specs.Record.{Message}
use Rattle.ds_codec.specs.Reading.{read_of}
use Rattle.ds_codec.specs.Writing.{orders_in, IsReadAgain}
use Rattle.order_lines.specs.Print.{command_words, order_words}
use Rattle.order_lines.specs.Told.{Told, command, order, told_of}
use Rattle.order_lines.specs.Draft.{Draft, written_of}

-- from the space up to the last character of ASCII
abbrev pub is_plain : ℕ → Bool
is_plain c = nat_le 32 c && nat_lt c 128

abbrev pub are_plain : List ℕ → Bool
are_plain words = list_all is_plain words

-- words of plain characters that say this
abbrev pub SayAgain : List ℕ → Told → Type 0
SayAgain words told = (told_of words ≡ Some told) × (are_plain words ≡ true)

-- the line of each order says that order
abbrev pub AreToldAgain : List Site → Type 0
AreToldAgain [] = Unit {0}
AreToldAgain (site ∷ sites) = SayAgain (order_words site.order) (order site.order) × AreToldAgain sites

-- the lines of a record say its command and its orders
pub record IsToldAgain (message : Message) : Type 0 where
  pub its_command : SayAgain (command_words message.command) (command message.command)
  pub its_orders : AreToldAgain message.orders

-- the lines of each record that can be read say the same
abbrev pub LinesTellAgain : Type 0
LinesTellAgain = (mode : Mode) (bytes : List ℕ) (message : Message) → IsBytes bytes → read_of mode bytes ≡ Ok message → IsToldAgain message

-- an order's address, where it has one, is below the number of cells
abbrev pub IsInside : ℕ → Item → Type 0
IsInside cells (set_buffer_address address) = address < cells
IsInside cells (repeat_to_address address character) = address < cells
IsInside cells (erase_unprotected_to_address address) = address < cells
IsInside cells other = Unit {0}

abbrev pub AreInside : ℕ → List Site → Type 0
AreInside cells [] = Unit {0}
AreInside cells (site ∷ sites) = IsInside cells site.order × AreInside cells sites

abbrev pub draft_of : Message → Draft
draft_of message = record { command = message.command; orders = orders_in message }

-- it is written, and what is written is read as the same command and orders
abbrev pub IsWrittenAgain : Mode → ℕ → Message → Type 0
IsWrittenAgain mode cells message =
    (bytes : List ℕ) × (written_of mode cells (draft_of message) ≡ Ok bytes) × IsReadAgain mode message.command (orders_in message) bytes

-- Each record that can be read, in whatever mode, is written again for a buffer that has all its addresses.
abbrev pub RecordsAreWrittenAgain : Type 0
RecordsAreWrittenAgain =
    (mode other : Mode) (cells : ℕ) (bytes : List ℕ) (message : Message) → IsBytes bytes → read_of mode bytes ≡ Ok message
    → cells ≤ limit_of other → AreInside cells message.orders → IsWrittenAgain other cells message

-- and for no other buffer
abbrev pub OnlyInsideIsWritten : Type 0
OnlyInsideIsWritten =
    (mode : Mode) (cells : ℕ) (message : Message) (bytes : List ℕ) → written_of mode cells (draft_of message) ≡ Ok bytes → AreInside cells message.orders
