-- What the record of a screen leaves.
use Rattle.std.specs.Prelude.{◌≡◌, ℕ, ◌*◌, ◌<◌, true, List, [], ◌∷◌, length, Some, Ok}
use Rattle.ds_codec.specs.declared.cell.Cell.{Cell}
use Rattle.ds_codec.specs.declared.cell.Cell.TheVariants.{Field, Char}
use Rattle.ds_codec.specs.Character.{is_glyph}
use Rattle.ds_codec.specs.Geometry.{Sizes, cells_of}
use Rattle.ds_codec.specs.Reading.{read_of}
use Rattle.ds_codec.specs.Record.{Message}
use Rattle.ds_screen.specs.declared.lock.Lock.TheVariants.{Free}
use Rattle.ds_screen.specs.Picture.{Picture}
use Rattle.ds_screen.specs.Records.{RecordShows}
use Rattle.buffer_lines.specs.declared.status.Status.{Status}
use Rattle.buffer_lines.specs.Line.{Line, silent, row, status, refused}
use Rattle.buffer_lines.specs.Screen.{Opened, Course, goes, ends, stops, geometry_told, position_of, usual_size}

-- a cell that a terminal can hold: an attribute of six bits, or a character that exists
abbrev pub IsHeld : Cell → Type 0
IsHeld (Field attribute) = attribute < 64
IsHeld (Char character) = is_glyph character ≡ true

abbrev pub AreHeld : List Cell → Type 0
AreHeld [] = Unit {0}
AreHeld (cell ∷ rest) = IsHeld cell × AreHeld rest

-- ---- a record

-- these bytes are a record that leads from one picture to another
abbrev pub BytesShow : Picture → List ℕ → Picture → Type 0
BytesShow before bytes after = (message : Message) × (read_of before.geometry.mode bytes ≡ Ok message) × RecordShows before message after

-- a screen of the alternate size with exactly these cells and this cursor, the keyboard free
abbrev pub left_on : Picture → List Cell → ℕ → Picture
left_on before cells cursor = record before { size = before.geometry.alternate; cells = cells; cursor = cursor; lock = Free; aid = 0x60 }

-- whatever a terminal of these sizes showed before, the bytes leave this screen
abbrev pub LeaveScreen : Sizes → List Cell → ℕ → List ℕ → Type 0
LeaveScreen sizes cells cursor bytes = (before : Picture) → before.geometry ≡ sizes → BytesShow before bytes (left_on before cells cursor)

-- the same of a terminal whose default size is 24x80, where there is a cell for each position
abbrev pub LeaveWhole : Sizes → List Cell → ℕ → List ℕ → Type 0
LeaveWhole sizes cells cursor bytes = sizes.default ≡ usual_size → length cells ≡ cells_of sizes.alternate → LeaveScreen sizes cells cursor bytes

-- ---- lines

-- rows with a cell for each position, each of which a terminal can hold
abbrev pub AreLaid : Opened → Type 0
AreLaid opened = (length opened.cells ≡ opened.rows * opened.cols) × AreHeld opened.cells

-- the cells of a row are some that a terminal can hold
abbrev pub IsHeldLine : Line → Type 0
IsHeldLine (row cells) = AreHeld cells
IsHeldLine silent = Unit {0}
IsHeldLine (status told) = Unit {0}
IsHeldLine refused = Unit {0}

-- What a line does to rows that are laid: they stay so; and where it ends the screen, it is a status line that tells a size of
-- a terminal and the cursor's place, and the record leaves there exactly the cells of the rows, and that cursor.
abbrev pub LeavesRows : Opened → Line → Course → Type 0
LeavesRows opened line (goes next) = AreLaid next
LeavesRows opened line (ends taken next) =
    (told : Status) × (sizes : Sizes) × (cursor : ℕ) × (line ≡ status told) × (geometry_told told ≡ Some sizes)
    × (position_of sizes.alternate told.row told.col ≡ Some cursor) × (taken.size ≡ sizes.alternate)
    × LeaveScreen sizes opened.cells cursor taken.bytes × AreLaid next
LeavesRows opened line stops = Unit {0}
