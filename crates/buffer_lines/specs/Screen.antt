-- A screen, row by row, and the status line that ends it.
use Rattle.std.specs.Prelude.{ℕ, ◌+◌, ◌*◌, Bool, ◌==◌, ◌&&◌, ◌||◌, nat_lt, List, [], ◌++◌, length, Option, Some, None, if◌then◌else◌}
use Rattle.ds_codec.specs.declared.cell.Cell.{Cell}
use Rattle.ds_codec.specs.declared.size.Size.{Size}
use Rattle.ds_codec.specs.declared.size.Mode.TheVariants.{Bits14}
use Rattle.ds_codec.specs.Geometry.{Sizes, geometry_of}
use Rattle.buffer_lines.specs.declared.screen.Open as held
use Rattle.buffer_lines.specs.declared.screen.Shot as shots
use Rattle.buffer_lines.specs.declared.screen.Step.{Step}
use Rattle.buffer_lines.specs.declared.screen.Step.TheVariants.{Goes, Ends, Refused}
use Rattle.buffer_lines.specs.declared.status.Status.{Status}
use Rattle.buffer_lines.specs.Line.{Line, silent, row, status, refused}
use Rattle.buffer_lines.specs.Record.{record_of}

-- the rows of a screen that isn't ended
pub record Opened : Type 0 where
  pub cells : List Cell
  pub rows : ℕ
  pub cols : ℕ

abbrev pub open_seen : held.Open → Opened
open_seen open' = record { cells = open'.cells.items; rows = open'.rows; cols = open'.cols }

-- a screen's size, and the record that leaves it
pub record Taken : Type 0 where
  pub size : Size
  pub bytes : List ℕ

abbrev pub shot_seen : shots.Shot → Taken
shot_seen shot = record { size = shot.size; bytes = shot.record.items }

-- what a line does: the screen goes on, it is ended, or the line is refused
pub data Course : Type 0 where
  goes : (opened : Opened) → Course
  ends : (taken : Taken) (opened : Opened) → Course
  stops : Course

abbrev pub course_of : Step → Opened → Course
course_of Goes opened = goes opened
course_of (Ends shot) opened = ends (shot_seen shot) opened
course_of Refused opened = stops

-- before the first row
abbrev pub at_first : Opened
at_first = record { cells = []; rows = 0; cols = 0 }

abbrev pub is_blank : Opened → Bool
is_blank opened = opened.rows == 0

-- ---- a row

-- it has as many cells as the first
abbrev pub fits : ℕ → ℕ → ℕ → Bool
fits rows cols count = nat_lt rows 255 && (rows == 0 || count == cols)

abbrev pub row_step : Opened → List Cell → Course
row_step opened cells =
    if fits opened.rows opened.cols (length cells)
    then goes (record { cells = opened.cells ++ cells; rows = opened.rows + 1; cols = length cells }) else stops

-- ---- the end

-- what Erase/Write sets
abbrev pub usual_size : Size
usual_size = record { rows = 24; cols = 80 }

abbrev pub has_rows : ℕ → ℕ → Status → Bool
has_rows rows cols told = rows == told.rows && cols == told.cols

-- the sizes of a terminal whose alternate size this is
abbrev pub geometry_told : Status → Option Sizes
geometry_told told = geometry_of usual_size (record { rows = told.rows; cols = told.cols }) Bits14

-- the position of a row and a column, where it is on the screen
abbrev pub position_of : Size → ℕ → ℕ → Option ℕ
position_of size line col =
    if nat_lt col size.cols && nat_lt (line * size.cols + col) (size.rows * size.cols) then Some (line * size.cols + col) else None

abbrev pub taken_at : Sizes → List Cell → Option ℕ → Option Taken
taken_at sizes cells None = None
taken_at sizes cells (Some cursor) = Some (record { size = sizes.alternate; bytes = record_of sizes cells cursor })

abbrev pub ended_at : Sizes → List Cell → Status → Option Taken
ended_at sizes cells told = taken_at sizes cells (position_of sizes.alternate told.row told.col)

abbrev pub ended_on : Option Sizes → List Cell → Status → Option Taken
ended_on None cells told = None
ended_on (Some sizes) cells told = ended_at sizes cells told

-- rows of the size that the status line tells, which a terminal can have
abbrev pub ended_by : List Cell → ℕ → ℕ → Status → Option Taken
ended_by cells rows cols told = if has_rows rows cols told then ended_on (geometry_told told) cells told else None

abbrev pub end_course : Option Taken → Course
end_course None = stops
end_course (Some taken) = ends taken at_first

-- a status line without rows before it is that of another action
abbrev pub end_step : Opened → Status → Course
end_step opened told =
    if is_blank opened then goes opened else end_course (ended_by opened.cells opened.rows opened.cols told)

-- ---- a line

abbrev pub step_by : Opened → Line → Course
step_by opened silent = goes opened
step_by opened (row cells) = row_step opened cells
step_by opened (status told) = end_step opened told
step_by opened refused = stops
