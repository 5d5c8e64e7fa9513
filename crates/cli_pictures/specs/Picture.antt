-- What `show` prints of a screen in another form, as a function of its input, and its status.
use Rattle.std.specs.Prelude.{ℕ, List, Result, Ok}
use Rattle.ds_codec.specs.Reading.{◌>>=◌}
use Rattle.ds_screen.specs.Picture.{Picture}
use Rattle.ds_screen.specs.Records.{new_picture}
use Rattle.cli_commands.specs.declared.fault.Fault.{Fault}
use Rattle.cli_commands.specs.declared.input.sizes.SizeLine.TheVariants.{Allowed}
use Rattle.cli_commands.specs.declared.status.Status.TheVariants.{Done}
use Rattle.cli_commands.specs.Printed.{Printed, printed, printed_or_fault}
use Rattle.cli_commands.specs.Records.{Records, records_in}
use Rattle.cli_commands.specs.Shown.{shown_from}
use Rattle.cli_pictures.specs.declared.drawing.Drawing.{Drawing}
use Rattle.cli_pictures.specs.declared.drawing.Drawing.TheVariants.{Svg, Html, Colored, Json, Rows}
use Rattle.cli_pictures.specs.Svg.{svg_element}
use Rattle.cli_pictures.specs.Html.{html_page}
use Rattle.cli_pictures.specs.Colored.{colored_text}
use Rattle.cli_pictures.specs.Json.{json_line}
use Rattle.cli_pictures.specs.Rows.{screen_text}

-- the text of a screen in each form
abbrev pub drawn : Drawing → Picture → List ℕ
drawn Svg v = svg_element v
drawn Html v = html_page v
drawn Colored v = colored_text v
drawn Json v = json_line v
drawn Rows v = screen_text v

-- the screen that records leave of a picture
abbrev pub pictured_from : Drawing → Picture → List (List ℕ) → Result Printed Fault
pictured_from drawing first records = shown_from first records >>= λ v. Ok (printed (drawn drawing v) Done)

-- the same of a new terminal's
abbrev pub pictured_told : Drawing → Records → Result Printed Fault
pictured_told drawing told = pictured_from drawing (new_picture told.geometry) told.records

abbrev pub pictured : Drawing → List ℕ → Result Printed Fault
pictured drawing input = records_in Allowed input >>= pictured_told drawing

-- what is printed for an input, and its status
abbrev pub printed_picture : Drawing → List ℕ → Printed
printed_picture drawing input = printed_or_fault (pictured drawing input)
