-- Where a finding is marked in a drawing.
use Rattle.std.specs.Prelude.{ℕ, ◌+◌, ◌-◌, ◌*◌, ◌%◌, not, ◌==◌, ◌||◌, Bool, min, Option, Some, None, option_map, unwrap_or, slice_get, List, length, if◌then◌else◌}
use Rattle.ds_codec.specs.declared.cell.Cell.{Cell}
use Rattle.ds_codec.specs.declared.size.Size.{Size}
use Rattle.ds_screen.specs.Ring.{least}
use Rattle.ds_screen.specs.Picture.{Picture}
use Rattle.ds_screen.specs.Fields.{is_character}
use Rattle.scr_layout.specs.Entry.{Declared}
use Rattle.scr_check.specs.declared.finding.Finding.{Finding}
use Rattle.scr_check.specs.declared.finding.Finding.TheVariants.{Undeclared, UndeclaredFixed, Missing, TooLong, OtherKind, EmptyModified}
use Rattle.cli_pictures.specs.declared.marks.Frame.{Frame}
use Rattle.cli_pictures.specs.Codes.{place_on, cell_on}
use Rattle.cli_pictures.specs.Svg.{left_of, top_of}

-- the place of the entry of this index
abbrev pub entry_place : List Declared → ℕ → Option ℕ
entry_place entries index = option_map (λ entry. entry.place) (slice_get entries index)

-- the place of its field, or of its entry; none for what is found of the records or of the whole screen
abbrev pub place_of : List Declared → Finding → Option ℕ
place_of entries (Undeclared place demo) = Some place
place_of entries (UndeclaredFixed place demo) = Some place
place_of entries (Missing index) = entry_place entries index
place_of entries (TooLong found) = entry_place entries found.entry
place_of entries (OtherKind index) = entry_place entries index
place_of entries (EmptyModified place) = Some place
place_of entries finding = None

-- how many cells an entry declares that has no field
abbrev pub declared_length : List Declared → Finding → Option ℕ
declared_length entries (Missing index) = option_map (λ entry. entry.length) (slice_get entries index)
declared_length entries finding = None

-- how many of so many cells from p on, round the screen's end, hold characters, up to the first that doesn't
abbrev pub run_length : List Cell → ℕ → ℕ → ℕ
run_length cells p most = unwrap_or (least most (λ d. not (is_character (cell_on cells p d)))) most

-- how many cells the field has whose first cell is at p
abbrev pub field_length : List Cell → ℕ → ℕ
field_length cells p = run_length cells p (length cells)

abbrev pub at_least_one : ℕ → ℕ
at_least_one n = if n == 0 then 1 else n

-- the cells that are marked of a finding at a place: those that its entry declares where it has no field, else those of its
-- field; one where that has none
abbrev pub marked_length : List Cell → List Declared → Finding → ℕ → ℕ
marked_length cells entries finding p = at_least_one (unwrap_or (declared_length entries finding) (field_length cells p))

-- at the first of some cells, and where they go on in another row, a part of a row begins
abbrev pub begins_part : Picture → ℕ → ℕ → Bool
begins_part v p steps = (steps == 0) || (place_on (length v.cells) p steps % v.size.cols == 0)

-- round what is left of so many cells from p on in the row of the one so many steps on
abbrev pub part_frame : Picture → ℕ → ℕ → ℕ → Frame
part_frame v p count steps =
    let place = place_on (length v.cells) p steps in
    record {
      left = left_of v.size.cols place;
      top = top_of v.size.cols place;
      width = 10 * min (count - steps) (v.size.cols - place % v.size.cols);
      height = 20;
    }

-- round all cells, half a margin off
abbrev pub screen_frame : Size → Frame
screen_frame size = record { left = 5; top = 5; width = 10 * size.cols + 10; height = 20 * size.rows + 10 }
