-- A screen with the entries of a layout and what is found against it, as a drawing and as a page; and what is printed of them.
use Rattle.std.specs.Prelude.{ℕ, List, ◌++◌, codes, Result, Ok}
use Rattle.std.specs.List.{flat_map}
use Rattle.ds_codec.specs.Reading.{◌>>=◌}
use Rattle.ds_screen.specs.Picture.{Picture}
use Rattle.ds_screen.specs.Records.{new_picture}
use Rattle.scr_layout.specs.Entry.{Declared}
use Rattle.scr_layout.specs.Layout.{Declaration}
use Rattle.scr_check.specs.declared.finding.Finding.{Finding}
use Rattle.scr_check.specs.Findings.{answer_of}
use Rattle.cli_commands.specs.declared.fault.Fault.{Fault}
use Rattle.cli_commands.specs.declared.input.sizes.SizeLine.TheVariants.{Refused}
use Rattle.cli_commands.specs.declared.status.Status.TheVariants.{Done}
use Rattle.cli_commands.specs.LayoutText.{layout_in}
use Rattle.cli_commands.specs.Printed.{Printed, printed, printed_or_fault}
use Rattle.cli_commands.specs.Records.{records_in}
use Rattle.cli_commands.specs.Shown.{shown_from}
use Rattle.cli_pictures.specs.declared.annotated.Annotated.{Annotated}
use Rattle.cli_pictures.specs.declared.annotated.Annotated.TheVariants.{Svg, Html}
use Rattle.cli_pictures.specs.Svg.{places, line_at, text_at, sized_head, title_line, cursor_element}
use Rattle.cli_pictures.specs.Html.{top_lines, body_lines, end_lines}
use Rattle.cli_pictures.specs.Notes.{notes_style, names_from, findings_from, names_listed, findings_listed, list_element, wide, high}

-- ---- the drawing

-- what is written on it: names, and frames
abbrev pub notes : List Declared → List Finding → Picture → List ℕ
notes entries findings v = notes_style ++ (names_from v entries 1 entries ++ findings_from v entries 1 findings)

-- and with the list of these lines below it
abbrev pub below : List Declared → List Finding → Picture → List (List ℕ) → List (List ℕ) → List ℕ
below entries findings v names words = notes entries findings v ++ (list_element v.size names words ++ codes "</svg>\n")

-- the drawing, which has room for that list
abbrev pub listed_svg : List Declared → List Finding → Picture → List (List ℕ) → List (List ℕ) → List ℕ
listed_svg entries findings v names words =
    sized_head v (wide v.size names words) (high v.size names words) ++ (flat_map (line_at v) (places v) ++ (flat_map (text_at v) (places v)
    ++ (cursor_element v.size.cols v.cursor ++ below entries findings v names words)))

-- ---- the forms

unfoldable pub annotated_svg : List Declared → List Finding → Picture → List ℕ
annotated_svg entries findings v = listed_svg entries findings v (names_listed v entries 1 entries) (findings_listed entries 1 findings)

abbrev pub annotated_page : List Declared → List Finding → Picture → List ℕ
annotated_page entries findings v = top_lines ++ (title_line v ++ (body_lines ++ (annotated_svg entries findings v ++ end_lines)))

abbrev pub annotated_drawn : Annotated → List Declared → List Finding → Picture → List ℕ
annotated_drawn Svg entries findings v = annotated_svg entries findings v
annotated_drawn Html entries findings v = annotated_page entries findings v

-- ---- what is printed

-- the screen that the records leave of a picture, with all that is found of them and a layout
abbrev pub annotated_from : Annotated → Declaration → Picture → List (List ℕ) → Result Printed Fault
annotated_from form layout first records =
    shown_from first records >>= λ v. Ok (printed (annotated_drawn form layout.entries (answer_of layout records) v) Done)

-- the same of a new terminal's, of the layout's sizes
abbrev pub annotated_told : Annotated → Declaration → List (List ℕ) → Result Printed Fault
annotated_told form layout records = annotated_from form layout (new_picture layout.geometry) records

abbrev pub annotated_records : Annotated → Declaration → List ℕ → Result Printed Fault
annotated_records form layout input = records_in Refused input >>= λ told. annotated_told form layout told.records

abbrev pub annotated : Annotated → List ℕ → List ℕ → Result Printed Fault
annotated form text input = layout_in text >>= λ layout. annotated_records form layout input

-- what is printed for a layout's text and records, and the status
abbrev pub printed_annotated : Annotated → List ℕ → List ℕ → Printed
printed_annotated form text input = printed_or_fault (annotated form text input)
