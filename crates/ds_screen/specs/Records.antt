-- What a record does: erasing or not, its write control character, and its orders in turn.
use Rattle.std.specs.Prelude.{◌≡◌, ℕ, true, false, List, [], ◌∷◌, length, replicate, Option, Some, None, Result, Ok, Err, if◌then◌else◌}
use Rattle.ds_codec.specs.declared.cell.Cell.{Cell}
use Rattle.ds_codec.specs.declared.cell.Cell.TheVariants.{Field, Char}
use Rattle.ds_codec.specs.declared.size.Size.{Size}
use Rattle.ds_codec.specs.declared.command.Command.{Command}
use Rattle.ds_codec.specs.declared.command.Command.TheVariants.{Write, EraseWrite, EraseWriteAlternate, EraseAllUnprotected}
use Rattle.ds_codec.specs.Attribute.{is_protected, with_modified}
use Rattle.ds_codec.specs.WriteControl.{resets_modified_tags, restores_keyboard, sounds_alarm}
use Rattle.ds_codec.specs.Geometry.{Sizes, cells_of}
use Rattle.ds_codec.specs.Order.{Site}
use Rattle.ds_codec.specs.Record.{Message}
use Rattle.ds_screen.specs.declared.lock.Lock.TheVariants.{Free, Waiting}
use Rattle.ds_screen.specs.declared.effect.Effect.{Effect}
use Rattle.ds_screen.specs.declared.refused.Why.{Why}
use Rattle.ds_screen.specs.declared.refused.Why.TheVariants.{NotAWrite}
use Rattle.ds_screen.specs.declared.refused.Refused.{Refused}
use Rattle.ds_screen.specs.Picture.{Picture, blank, cell_at, ruled}
use Rattle.ds_screen.specs.Fields.{is_open, first_open}
use Rattle.ds_screen.specs.Orders.{Writing, effect_of, fault_of}

abbrev pub unmodified : Cell → Cell
unmodified (Field bits) = Field (with_modified bits false)
unmodified (Char character) = Char character

abbrev pub unprotected_unmodified : Cell → Cell
unprotected_unmodified (Field bits) = Field (if is_protected bits then bits else with_modified bits false)
unprotected_unmodified (Char character) = Char character

-- a new terminal: nulls of the default size, the keyboard waiting, no attention key
abbrev pub new_picture : Sizes → Picture
new_picture geometry =
    record {
      geometry = geometry;
      size = geometry.default;
      cells = replicate (cells_of geometry.default) blank;
      cursor = 0;
      lock = Waiting;
      aid = 0x60;
    }

-- nulls of a size, with the cursor at 0
abbrev pub erased : Size → Picture → Picture
erased size v = record v { size = size; cells = replicate (cells_of size) blank; cursor = 0 }

-- what the orders begin with: the buffer address is the cursor's, and the modified data tags may be reset
abbrev pub begun : ℕ → List Cell → ℕ → Writing
begun wcc cells cursor =
    record {
      cells = if resets_modified_tags wcc then ruled (length cells) (λ p. unmodified (cell_at cells p)) else cells;
      cursor = cursor;
      address = cursor;
      nulling = false;
    }

-- what the orders leave, with the keyboard freed and no attention key where the keyboard is restored
abbrev pub finished : ℕ → Picture → Writing → Picture
finished wcc v w =
    record v {
      cells = w.cells;
      cursor = w.cursor;
      lock = if restores_keyboard wcc then Free else v.lock;
      aid = if restores_keyboard wcc then 0x60 else v.aid;
    }

-- the rest of the orders, unless the first is at fault
abbrev pub unless : {A : Type 0} → Option Why → ℕ → Result A Refused → Result A Refused
unless None at others = others
unless (Some why) at others = Err (record { at = at; why = why })

-- the orders in turn, up to the first that is at fault
unfoldable pub acts : List Site → Writing → Result Writing Refused
acts [] w = Ok w
acts (site ∷ sites) w = unless (fault_of site.order w) site.at (acts sites (effect_of site.order w))

abbrev pub finishes : ℕ → Picture → Result Writing Refused → Result Picture Refused
finishes wcc v (Ok w) = Ok (finished wcc v w)
finishes wcc v (Err refused) = Err refused

abbrev pub written : ℕ → List Site → Picture → Result Picture Refused
written wcc orders v = finishes wcc v (acts orders (begun wcc v.cells v.cursor))

-- Erase Input and Erase All Unprotected: open characters become nulls, and unprotected attributes are not modified any
-- more; the cursor goes to the least open position (our own rule where a field runs round the end)
unfoldable pub cleared_cell : List Cell → ℕ → Cell
cleared_cell cells p = if is_open cells p then blank else unprotected_unmodified (cell_at cells p)

abbrev pub cleared : Picture → Picture
cleared v = record v { cells = ruled (length v.cells) (cleared_cell v.cells); cursor = first_open v.cells 0 }

-- Erase All Unprotected frees the keyboard too
abbrev pub all_cleared : Picture → Picture
all_cleared v = record (cleared v) { lock = Free; aid = 0x60 }

-- what a record makes of a picture, or why it is refused
unfoldable pub shown_of : Picture → Command → List Site → Result Picture Refused
shown_of v (Write wcc) orders = written wcc orders v
shown_of v (EraseWrite wcc) orders = written wcc orders (erased v.geometry.default v)
shown_of v (EraseWriteAlternate wcc) orders = written wcc orders (erased v.geometry.alternate v)
shown_of v EraseAllUnprotected orders = Ok (all_cleared v)
shown_of v command orders = Err (record { at = 0; why = NotAWrite })

-- the record leads from one picture to another
abbrev pub RecordShows : Picture → Message → Picture → Type 0
RecordShows before message after = shown_of before message.command message.orders ≡ Ok after

-- the record is refused: the least order at fault, and why
abbrev pub IsRefusedBy : Picture → Message → Refused → Type 0
IsRefusedBy before message refused = shown_of before message.command message.orders ≡ Err refused

-- what is told of a command that was done
abbrev pub told_of : Command → Effect
told_of (Write wcc) = record { alarm = sounds_alarm wcc; restored = restores_keyboard wcc }
told_of (EraseWrite wcc) = record { alarm = sounds_alarm wcc; restored = restores_keyboard wcc }
told_of (EraseWriteAlternate wcc) = record { alarm = sounds_alarm wcc; restored = restores_keyboard wcc }
told_of EraseAllUnprotected = record { alarm = false; restored = true }
told_of command = record { alarm = false; restored = false }
