-- What is said has no line's end.
use Rattle.std.proofs.Common.{◌≡◌, ◌+◌, ◌/◌, ◌%◌, ℕ, true, length, List, [], ◌∷◌, ◌++◌, codes, Option, Some, None, Result, Ok, Err, refl}
use Rattle.std.specs.Prelude.{◌==◌, if◌then◌else◌}
use Rattle.std.specs.List.{range_with_len}
use Rattle.std.specs.Fmt.{decimal}
use Rattle.ds_codec.specs.declared.cell.Cell.{Cell}
use Rattle.ds_codec.specs.Geometry.{cells_of}
use Rattle.ds_screen.specs.Picture.{Picture, cell_at}
use Rattle.ds_screen.specs.Fields.{attribute_before, ruling_bits}
use Rattle.script_screens.specs.declared.code_page.CodePage.{CodePage}
use Rattle.script_screens.specs.declared.shown.Form.{Form}
use Rattle.script_screens.specs.declared.shown.Form.TheVariants as forms
use Rattle.script_screens.specs.declared.region.Region.{Region}
use Rattle.script_screens.specs.declared.region.Region.TheVariants.{Stretch}
use Rattle.script_screens.specs.declared.region.RegionFault.{RegionFault}
use Rattle.script_screens.specs.declared.region.RegionFault.TheVariants.{Count, Invalid}
use Rattle.script_screens.specs.declared.region.Run.{Run}
use Rattle.script_screens.specs.declared.buffer.Asked.{Asked}
use Rattle.script_screens.specs.declared.reading.Reading.TheVariants.{Ascii, Ascii1, AsciiField, Ebcdic, Ebcdic1, EbcdicField, ReadBuffer}
use Rattle.script_screens.specs.Lines.{done}
use Rattle.script_screens.specs.Regions.{region_of, line_count, run_of}
use Rattle.script_screens.specs.Shown.{cell_text, separator}
use Rattle.script_screens.specs.Cells.{place_on, piece_text, line_text, line_of, region_texts}
use Rattle.script_screens.specs.Fields.{first_of, field_length}
use Rattle.script_screens.specs.Reading.{region_said, cells_said, cursor_field_said, field_said, asked_of, place_words, buffer_field_said, buffer_said}
use Rattle.script_screens.specs.Laws.{is_whole, are_whole, ReadingsAreLines}
use Rattle.script_screens.proofs.Whole.{and_true, either_way, join, flat, all, decimal_whole, cell_whole, separator_whole}

abbrev Whole : List ℕ → Type 0
Whole text = is_whole text ≡ true

piece_whole : (page : CodePage) (form : Form) (cells : List Cell) (start steps : ℕ) → Whole (piece_text page form cells start steps)
piece_whole page form cells start steps =
    join (if steps == 0 then [] else separator form)
    (cell_text page form (ruling_bits cells (place_on (length cells) start steps)) (cell_at cells (place_on (length cells) start steps)))
    (either_way Whole (steps == 0) [] (separator form) refl (separator_whole form))
    (cell_whole page form (ruling_bits cells (place_on (length cells) start steps)) (cell_at cells (place_on (length cells) start steps)))

line_whole : (page : CodePage) (form : Form) (cells : List Cell) (run : Run) → Whole (line_text page form cells run)
line_whole page form cells run = flat (piece_text page form cells run.start) (range_with_len 0 run.length) (piece_whole page form cells run.start)

region_whole : (page : CodePage) (form : Form) (v : Picture) (region : Region) → are_whole (region_texts page form v region) ≡ true
region_whole page form v region =
    all (line_of page form v region) (range_with_len 0 (line_count v.size.cols region)) (λ line. line_whole page form v.cells (run_of (cells_of v.size) v.size.cols region line))

region_said_whole : (page : CodePage) (form : Form) (v : Picture) (name : List ℕ) (region : Result Region RegionFault) → Whole name
    → are_whole (region_said page form v name region).texts ≡ true
region_said_whole page form v name (Ok region) whole = region_whole page form v region
region_said_whole page form v name (Err Count) whole = and_true _ _ (join name (codes " requires 0, 1, 3 or 4 arguments") whole refl) refl
region_said_whole page form v name (Err Invalid) whole = and_true _ _ (join name (codes ": Invalid argument") whole refl) refl

cells_whole : (page : CodePage) (form : Form) (v : Picture) (name : List ℕ) (origin : ℕ) (arguments : List (List ℕ)) → Whole name
    → are_whole (cells_said page form v name origin arguments).texts ≡ true
cells_whole page form v name origin arguments whole = region_said_whole page form v name (region_of v.size v.cursor origin arguments) whole

cursor_field_whole : (page : CodePage) (form : Form) (v : Picture) (name : List ℕ) (found : Option ℕ) → Whole name
    → are_whole (cursor_field_said page form v name found).texts ≡ true
cursor_field_whole page form v name None whole = and_true _ _ (join name (codes "(): Screen is not formatted") whole refl) refl
cursor_field_whole page form v name (Some q) whole =
    either_way (λ texts. are_whole texts ≡ true) (field_length v.cells q == 0) [] (region_texts page form v (Stretch (first_of v.cells q) (field_length v.cells q))) refl
    (region_whole page form v (Stretch (first_of v.cells q) (field_length v.cells q)))

field_whole : (page : CodePage) (form : Form) (v : Picture) (name : List ℕ) (arguments : List (List ℕ)) → Whole name
    → are_whole (field_said page form v name arguments).texts ≡ true
field_whole page form v name [] whole = cursor_field_whole page form v name (attribute_before v.cells v.cursor) whole
field_whole page form v name (argument ∷ arguments) whole = and_true _ _ (join name (codes "() requires 0 arguments") whole refl) refl

place_whole : (columns p : ℕ) → Whole (place_words columns p)
place_whole columns p =
    join (decimal (p / columns + 1)) (codes " " ++ decimal (p % columns + 1)) (decimal_whole (p / columns + 1))
    (join (codes " ") (decimal (p % columns + 1)) refl (decimal_whole (p % columns + 1)))

buffer_field_whole : (page : CodePage) (form : Form) (v : Picture) (found : Option ℕ) → are_whole (buffer_field_said page form v found).texts ≡ true
buffer_field_whole page form v None = refl
buffer_field_whole page form v (Some q) =
    and_true _ _ (join (codes "Start1: ") (place_words v.size.cols q) refl (place_whole v.size.cols q))
    (and_true _ _ (join (codes "StartOffset: ") (decimal q) refl (decimal_whole q))
    (and_true _ _ (join (codes "Cursor1: ") (place_words v.size.cols v.cursor) refl (place_whole v.size.cols v.cursor))
    (and_true _ _ (join (codes "CursorOffset: ") (decimal v.cursor) refl (decimal_whole v.cursor))
    (and_true _ _ (join (codes "Contents: ") (line_text page form v.cells (record { start = q; length = field_length v.cells q + 1 })) refl
    (line_whole page form v.cells (record { start = q; length = field_length v.cells q + 1 }))) refl))))

buffer_whole : (page : CodePage) (v : Picture) (asked : Option Asked) → are_whole (buffer_said page v asked).texts ≡ true
buffer_whole page v None = refl
buffer_whole page v (Some asked) =
    either_way (λ said. are_whole said.texts ≡ true) asked.field (buffer_field_said page asked.form v (attribute_before v.cells v.cursor))
    (done (region_texts page asked.form v (Stretch 0 (cells_of v.size))))
    (buffer_field_whole page asked.form v (attribute_before v.cells v.cursor)) (region_whole page asked.form v (Stretch 0 (cells_of v.size)))

pub readings_are_lines : ReadingsAreLines
readings_are_lines page v Ascii arguments = cells_whole page forms.Ascii v (codes "Ascii") 0 arguments refl
readings_are_lines page v Ascii1 arguments = cells_whole page forms.Ascii v (codes "Ascii1") 1 arguments refl
readings_are_lines page v AsciiField arguments = field_whole page forms.Ascii v (codes "AsciiField") arguments refl
readings_are_lines page v Ebcdic arguments = cells_whole page forms.Ebcdic v (codes "Ebcdic") 0 arguments refl
readings_are_lines page v Ebcdic1 arguments = cells_whole page forms.Ebcdic v (codes "Ebcdic1") 1 arguments refl
readings_are_lines page v EbcdicField arguments = field_whole page forms.Ebcdic v (codes "EbcdicField") arguments refl
readings_are_lines page v ReadBuffer arguments = buffer_whole page v (asked_of arguments)
