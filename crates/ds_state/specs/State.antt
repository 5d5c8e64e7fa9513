-- A terminal as bytes: which bytes spell which picture.
use Rattle.std.specs.Prelude.{◌≡◌, ℕ, ◌+◌, ◌-◌, ◌*◌, ◌/◌, ◌%◌, max, Bool, ◌==◌, ◌&&◌, List, [], ◌∷◌, ◌++◌, length, replicate, Option, Some, None, if◌then◌else◌}
use Rattle.std.specs.List.{flat_map}
use Rattle.ds_codec.specs.declared.cell.Cell.{Cell}
use Rattle.ds_codec.specs.declared.order.OrderCode.TheVariants.{Sba, Ic}
use Rattle.ds_codec.specs.declared.size.Mode.{Mode}
use Rattle.ds_codec.specs.declared.size.Mode.TheVariants.{Bits14, Bits16}
use Rattle.ds_codec.specs.declared.size.Size.{Size}
use Rattle.ds_codec.specs.Address.{written_address}
use Rattle.ds_codec.specs.Geometry.{Sizes, cells_of}
use Rattle.ds_codec.specs.Order.{code_of}
use Rattle.ds_codec.specs.Same.{same_size}
use Rattle.ds_screen.specs.declared.lock.Lock.{Lock}
use Rattle.ds_screen.specs.declared.lock.Lock.TheVariants.{Free, Waiting, Error}
use Rattle.ds_screen.specs.Picture.{Picture, IsSound}
use Rattle.buffer_lines.specs.Left.{AreHeld}
use Rattle.buffer_lines.specs.Record.{cell_bytes}

-- a picture that a terminal can have: sound, and only attributes of six bits
pub record IsWhole (v : Picture) : Type 0 where
  pub sound : IsSound v
  pub held : AreHeld v.cells

-- ---- the record that draws a picture

-- Erase/Write where the default size is in use, else Erase/Write Alternate
abbrev pub erase_code : Picture → ℕ
erase_code v = if same_size v.size v.geometry.default then 0xF5 else 0x7E

-- each cell as an order of its own, or as text
abbrev pub cells_bytes : List Cell → List ℕ
cells_bytes cells = flat_map cell_bytes cells

-- Set Buffer Address and Insert Cursor
abbrev pub cursor_bytes : Picture → List ℕ
cursor_bytes v = code_of Sba ∷ (written_address v.geometry.mode (cells_of v.size) v.cursor ++ code_of Ic ∷ [])

-- the command, a write control character that restores the keyboard, each cell from the first on, and the cursor
unfoldable pub record_of : Picture → List ℕ
record_of v = erase_code v ∷ 0xC2 ∷ (cells_bytes v.cells ++ cursor_bytes v)

-- what it leaves of a new terminal: all but the lock and the attention identifier
abbrev pub drawn : Picture → Picture
drawn v = record v { lock = Free; aid = 0x60 }

-- ---- the state

abbrev pub mode_byte : Mode → ℕ
mode_byte Bits14 = 0
mode_byte Bits16 = 1

abbrev pub lock_byte : Lock → ℕ
lock_byte Free = 0
lock_byte Waiting = 1
lock_byte Error = 2

-- the version, how addresses are spelled, the rows and columns of the default and the alternate size, the keyboard's lock, the
-- attention identifier, and of how many bytes the record is, the high byte first
abbrev pub header_of : Picture → ℕ → List ℕ
header_of v count =
    1 ∷ mode_byte v.geometry.mode ∷ v.geometry.default.rows ∷ v.geometry.default.cols ∷ v.geometry.alternate.rows
    ∷ v.geometry.alternate.cols ∷ lock_byte v.lock ∷ v.aid ∷ count / 256 / 256 ∷ count / 256 % 256 ∷ count % 256 ∷ []

-- room for a header and for the record of any picture of this geometry
abbrev pub most_bytes : Sizes → ℕ
most_bytes sizes = 17 + 2 * max (cells_of sizes.default) (cells_of sizes.alternate)

-- the header, the record, and zeros
unfoldable pub state_of : Picture → List ℕ
state_of v =
    header_of v (length (record_of v)) ++ (record_of v ++ replicate (most_bytes v.geometry - (11 + length (record_of v))) 0)

-- ---- states

-- the bytes are the state of the picture
abbrev pub IsState : List ℕ → Picture → Type 0
IsState bytes v = IsWhole v × (bytes ≡ state_of v)

-- the picture whose state the bytes are, or they are none's
abbrev pub Opens : List ℕ → Option Picture → Type 0
Opens bytes None = (v : Picture) → IsState bytes v → ⊥
Opens bytes (Some v) = IsState bytes v

-- no bytes are the states of two pictures
abbrev pub HasOnePicture : Type 0
HasOnePicture = (bytes : List ℕ) (v w : Picture) → IsState bytes v → IsState bytes w → v ≡ w
