-- What the reading actions say.
use Rattle.std.specs.Prelude.{ℕ, ◌+◌, ◌/◌, ◌%◌, ◌==◌, true, false, List, [], ◌∷◌, ◌++◌, codes, Option, Some, None, Result, Ok, Err, if◌then◌else◌}
use Rattle.std.specs.Fmt.{decimal}
use Rattle.std.specs.Str.{str_eq_ignore_ascii_case}
use Rattle.ds_codec.specs.Geometry.{cells_of}
use Rattle.ds_screen.specs.Picture.{Picture}
use Rattle.ds_screen.specs.Fields.{attribute_before}
use Rattle.script_screens.specs.declared.code_page.CodePage.{CodePage}
use Rattle.script_screens.specs.declared.shown.Form.{Form}
use Rattle.script_screens.specs.declared.shown.Form.TheVariants as forms
use Rattle.script_screens.specs.declared.region.Region.{Region}
use Rattle.script_screens.specs.declared.region.Region.TheVariants.{Stretch}
use Rattle.script_screens.specs.declared.region.RegionFault.{RegionFault}
use Rattle.script_screens.specs.declared.region.RegionFault.TheVariants.{Count, Invalid}
use Rattle.script_screens.specs.declared.buffer.Asked.{Asked}
use Rattle.script_screens.specs.declared.reading.Reading.{Reading}
use Rattle.script_screens.specs.declared.reading.Reading.TheVariants.{Ascii, Ascii1, AsciiField, Ebcdic, Ebcdic1, EbcdicField, ReadBuffer}
use Rattle.script_screens.specs.Lines.{Said, done, failed}
use Rattle.script_screens.specs.Regions.{region_of}
use Rattle.script_screens.specs.Fields.{first_of, field_length}
use Rattle.script_screens.specs.Cells.{line_text, region_texts}

-- ---- Ascii and Ebcdic

abbrev pub region_said : CodePage → Form → Picture → List ℕ → Result Region RegionFault → Said
region_said page form v name (Ok region) = done (region_texts page form v region)
region_said page form v name (Err Count) = failed (name ++ codes " requires 0, 1, 3 or 4 arguments")
region_said page form v name (Err Invalid) = failed (name ++ codes ": Invalid argument")

abbrev pub cells_said : CodePage → Form → Picture → List ℕ → ℕ → List (List ℕ) → Said
cells_said page form v name origin arguments = region_said page form v name (region_of v.size v.cursor origin arguments)

-- ---- AsciiField and EbcdicField

-- an empty field has no line
abbrev pub field_texts : CodePage → Form → Picture → ℕ → List (List ℕ)
field_texts page form v q =
    if field_length v.cells q == 0 then [] else region_texts page form v (Stretch (first_of v.cells q) (field_length v.cells q))

abbrev pub cursor_field_said : CodePage → Form → Picture → List ℕ → Option ℕ → Said
cursor_field_said page form v name None = failed (name ++ codes "(): Screen is not formatted")
cursor_field_said page form v name (Some q) = done (field_texts page form v q)

abbrev pub field_said : CodePage → Form → Picture → List ℕ → List (List ℕ) → Said
field_said page form v name [] = cursor_field_said page form v name (attribute_before v.cells v.cursor)
field_said page form v name (argument ∷ arguments) = failed (name ++ codes "() requires 0 arguments")

-- ---- ReadBuffer

abbrev pub asked_word : Asked → List ℕ → Option Asked
asked_word asked word =
    if str_eq_ignore_ascii_case word (codes "ascii") then Some (record asked { form = forms.BufferAscii })
    else (if str_eq_ignore_ascii_case word (codes "ebcdic") then Some (record asked { form = forms.BufferEbcdic })
    else (if str_eq_ignore_ascii_case word (codes "unicode") then Some (record asked { form = forms.BufferUnicode })
    else (if str_eq_ignore_ascii_case word (codes "field") then Some (record asked { field = true }) else None)))

abbrev pub then_asked : Option Asked → (Asked → Option Asked) → Option Asked
then_asked None others = None
then_asked (Some asked) others = others asked

-- words in any order, the last of ascii, ebcdic and unicode counts; ascii where there is none
abbrev pub asked_after : Asked → List (List ℕ) → Option Asked
asked_after asked [] = Some asked
asked_after asked (word ∷ words) = then_asked (asked_word asked word) (λ next. asked_after next words)

abbrev pub asked_of : List (List ℕ) → Option Asked
asked_of arguments = asked_after (record { form = forms.BufferAscii; field = false }) arguments

-- the row and the column of a position, from 1
abbrev pub place_words : ℕ → ℕ → List ℕ
place_words columns p = decimal (p / columns + 1) ++ (codes " " ++ decimal (p % columns + 1))

-- where an attribute and the cursor stand
abbrev pub place_texts : ℕ → ℕ → ℕ → List (List ℕ)
place_texts columns q cursor =
    (codes "Start1: " ++ place_words columns q) ∷ (codes "StartOffset: " ++ decimal q)
    ∷ (codes "Cursor1: " ++ place_words columns cursor) ∷ (codes "CursorOffset: " ++ decimal cursor) ∷ []

-- the attribute and the cells of its field
abbrev pub contents_text : CodePage → Form → Picture → ℕ → List ℕ
contents_text page form v q = codes "Contents: " ++ line_text page form v.cells (record { start = q; length = field_length v.cells q + 1 })

abbrev pub buffer_field_texts : CodePage → Form → Picture → ℕ → List (List ℕ)
buffer_field_texts page form v q = place_texts v.size.cols q v.cursor ++ contents_text page form v q ∷ []

abbrev pub buffer_field_said : CodePage → Form → Picture → Option ℕ → Said
buffer_field_said page form v None = failed (codes "ReadBuffer(): no field")
buffer_field_said page form v (Some q) = done (buffer_field_texts page form v q)

abbrev pub buffer_said : CodePage → Picture → Option Asked → Said
buffer_said page v None = failed (codes "ReadBuffer(): Parameter must be ascii, ebcdic, unicode or field")
buffer_said page v (Some asked) =
    if asked.field then buffer_field_said page asked.form v (attribute_before v.cells v.cursor)
    else done (region_texts page asked.form v (Stretch 0 (cells_of v.size)))

-- ---- all of them

abbrev pub said_of_reading : CodePage → Picture → Reading → List (List ℕ) → Said
said_of_reading page v Ascii arguments = cells_said page forms.Ascii v (codes "Ascii") 0 arguments
said_of_reading page v Ascii1 arguments = cells_said page forms.Ascii v (codes "Ascii1") 1 arguments
said_of_reading page v AsciiField arguments = field_said page forms.Ascii v (codes "AsciiField") arguments
said_of_reading page v Ebcdic arguments = cells_said page forms.Ebcdic v (codes "Ebcdic") 0 arguments
said_of_reading page v Ebcdic1 arguments = cells_said page forms.Ebcdic v (codes "Ebcdic1") 1 arguments
said_of_reading page v EbcdicField arguments = field_said page forms.Ebcdic v (codes "EbcdicField") arguments
said_of_reading page v ReadBuffer arguments = buffer_said page v (asked_of arguments)
