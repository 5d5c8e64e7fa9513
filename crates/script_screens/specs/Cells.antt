-- Cells that are read, line by line.
use Rattle.std.specs.Prelude.{ℕ, ◌+◌, ◌%◌, ◌==◌, List, [], ◌++◌, map, length, if◌then◌else◌}
use Rattle.std.specs.List.{flat_map, range_with_len}
use Rattle.ds_codec.specs.declared.cell.Cell.{Cell}
use Rattle.ds_codec.specs.Geometry.{cells_of}
use Rattle.ds_screen.specs.Picture.{Picture, cell_at}
use Rattle.ds_screen.specs.Fields.{ruling_bits}
use Rattle.script_screens.specs.declared.code_page.CodePage.{CodePage}
use Rattle.script_screens.specs.declared.shown.Form.{Form}
use Rattle.script_screens.specs.declared.region.Region.{Region}
use Rattle.script_screens.specs.declared.region.Run.{Run}
use Rattle.script_screens.specs.Shown.{cell_text, separator}
use Rattle.script_screens.specs.Regions.{line_count, run_of}

-- the position so many on, round the screen's end
abbrev pub place_on : ℕ → ℕ → ℕ → ℕ
place_on cells start steps = (start + steps) % cells

-- a cell of a line, with what stands before it
abbrev pub piece_text : CodePage → Form → List Cell → ℕ → ℕ → List ℕ
piece_text page form cells start steps =
    (if steps == 0 then [] else separator form)
    ++ cell_text page form (ruling_bits cells (place_on (length cells) start steps)) (cell_at cells (place_on (length cells) start steps))

abbrev pub line_text : CodePage → Form → List Cell → Run → List ℕ
line_text page form cells run = flat_map (piece_text page form cells run.start) (range_with_len 0 run.length)

abbrev pub line_of : CodePage → Form → Picture → Region → ℕ → List ℕ
line_of page form v region line = line_text page form v.cells (run_of (cells_of v.size) v.size.cols region line)

-- the texts of the lines of what is read
abbrev pub region_texts : CodePage → Form → Picture → Region → List (List ℕ)
region_texts page form v region = map (line_of page form v region) (range_with_len 0 (line_count v.size.cols region))
