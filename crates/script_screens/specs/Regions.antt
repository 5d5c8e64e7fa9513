-- Which cells are read, line by line.
use Rattle.std.specs.Prelude.{ℕ, ◌+◌, ◌-◌, ◌*◌, ◌/◌, ◌%◌, ◌==◌, ◌&&◌, ◌||◌, nat_le, List, [], ◌∷◌, Option, Some, None, Result, Ok, Err, if◌then◌else◌}
use Rattle.ds_codec.specs.declared.size.Size.{Size}
use Rattle.ds_codec.specs.Geometry.{cells_of}
use Rattle.script_screens.specs.declared.region.Region.{Region}
use Rattle.script_screens.specs.declared.region.Region.TheVariants.{Stretch, Rectangle}
use Rattle.script_screens.specs.declared.region.Run.{Run}
use Rattle.script_screens.specs.declared.region.RegionFault.{RegionFault}
use Rattle.script_screens.specs.declared.region.RegionFault.TheVariants.{Count, Invalid}
use Rattle.script_screens.specs.Numbers.{number_of}

-- ---- lines

-- how many lines: one where there is no cell; a stretch goes on from row to row
abbrev pub line_count : ℕ → Region → ℕ
line_count width (Stretch start count) = if count == 0 then 1 else (start % width + count - 1) / width + 1
line_count width (Rectangle row column rows columns) = rows

abbrev pub smaller : ℕ → ℕ → ℕ
smaller a b = if nat_le a b then a else b

-- the cells of a line of a stretch, of n cells: from its start or a row's begin to that row's end or the stretch's
abbrev pub stretch_run : ℕ → ℕ → ℕ → ℕ → ℕ → Run
stretch_run n width start count line =
    if line == 0 then record { start = start % n; length = smaller (width - start % width) count }
    else record {
      start = (start - start % width + line * width) % n;
      length = smaller width (count - (line * width - start % width));
    }

abbrev pub run_of : ℕ → ℕ → Region → ℕ → Run
run_of n width (Stretch start count) line = stretch_run n width start count line
run_of n width (Rectangle row column rows columns) line = record { start = ((row + line) * width + column) % n; length = columns }

-- ---- arguments

-- a number that counts from 0, or from 1
abbrev pub from_origin : ℕ → Option ℕ → Option ℕ
from_origin origin None = None
from_origin origin (Some number) = if nat_le origin number then Some (number - origin) else None

-- so many cells from the cursor
abbrev pub from_cursor : ℕ → ℕ → Option ℕ → Option Region
from_cursor cells cursor None = None
from_cursor cells cursor (Some count) = if nat_le (cursor + count) cells then Some (Stretch cursor count) else None

-- so many cells from a row and a column, which may be the next row's begin
abbrev pub from_place : Size → Option ℕ → Option ℕ → Option ℕ → Option Region
from_place size (Some row) (Some column) (Some count) =
    if (nat_le row size.rows && nat_le column size.cols) && nat_le (row * size.cols + column + count) (cells_of size)
    then Some (Stretch (row * size.cols + column) count) else None
from_place size row column count = None

-- so many columns of so many rows
abbrev pub rectangle : Size → Option ℕ → Option ℕ → Option ℕ → Option ℕ → Option Region
rectangle size (Some row) (Some column) (Some rows) (Some columns) =
    if nat_le (row + rows) size.rows && nat_le (column + columns) size.cols
    then Some (if (rows == 0) || (columns == 0) then Stretch 0 0 else Rectangle row column rows columns) else None
rectangle size row column rows columns = None

abbrev pub valid : Option Region → Result Region RegionFault
valid None = Err Invalid
valid (Some region) = Ok region

-- all, or by 1, 3 or 4 numbers
abbrev pub region_of : Size → ℕ → ℕ → List (List ℕ) → Result Region RegionFault
region_of size cursor origin [] = Ok (Stretch 0 (cells_of size))
region_of size cursor origin (count ∷ []) = valid (from_cursor (cells_of size) cursor (number_of count))
region_of size cursor origin (row ∷ column ∷ count ∷ []) =
    valid (from_place size (from_origin origin (number_of row)) (from_origin origin (number_of column)) (number_of count))
region_of size cursor origin (row ∷ column ∷ rows ∷ columns ∷ []) =
    valid (rectangle size (from_origin origin (number_of row)) (from_origin origin (number_of column)) (number_of rows) (number_of columns))
region_of size cursor origin arguments = Err Count
