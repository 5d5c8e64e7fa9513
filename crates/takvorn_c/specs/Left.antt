-- What a call leaves to C: a buffer, a length and a status.
use Rattle.std.specs.Prelude.{◌≡◌, ◌⊎◌, ℕ, ℤ, pos, Bool, true, false, List, [], ◌∷◌, ◌++◌, Option, Some, None, take, drop, length}
use Rattle.bms_map.specs.declared.record.Control.{Control}
use Rattle.cli_maps.specs.declared.asked.Form.{Form as MapForm}
use Rattle.cli_maps.specs.declared.asked.Form.TheVariants as map_forms
use Rattle.cli_binds.specs.declared.fields.Form.{Form}
use Rattle.cli_binds.specs.declared.fields.Form.TheVariants.{Hexadecimal, Text}
use Rattle.cli_commands.specs.declared.output.demo.Demos.{Demos}
use Rattle.cli_commands.specs.declared.output.demo.Demos.TheVariants.{Omitted, Printed as PrintedDemos}
use Rattle.cli_commands.specs.declared.status.Status.{Status}
use Rattle.cli_commands.specs.Printed.{Printed, printed}
use Rattle.cli_commands.specs.Status.{code_of}
use Rattle.cli_pictures.specs.declared.drawing.Drawing.{Drawing}
use Rattle.cli_pictures.specs.declared.drawing.Drawing.TheVariants.{Json, Svg}
use Rattle.cli_traces.specs.declared.asked.Asked.{Asked}
use Rattle.cli_traces.specs.declared.asked.Source.{Source}
use Rattle.cli_traces.specs.declared.asked.Source.TheVariants.{Trace, Stream}
use Rattle.cli_traces.specs.Following.{plain}
use Rattle.cli_traces.specs.Told.{TellsRecords}
use Rattle.tn_traces.specs.declared.line.Side.{Side}
use Rattle.tn_traces.specs.declared.line.Side.TheVariants.{Host, Terminal}

-- what fits of a text is written from the buffer's first byte on, and the rest of the buffer stays
abbrev pub laid_over : List ℕ → List ℕ → List ℕ
laid_over old text = take (length old) text ++ drop (length text) old

-- the buffer, the whole text's length, whatever fits, and the status are those of what is printed
abbrev pub IsTold : Printed → List ℕ → List ℕ → ℕ → ℤ → Type 0
IsTold due old new needed status = (new ≡ laid_over old due.text) × (needed ≡ length due.text) × (status ≡ pos (code_of due.status))

-- memory was refused: status 4, the buffer as it was, and length 0
abbrev pub IsRefused : List ℕ → List ℕ → ℕ → ℤ → Type 0
IsRefused old new needed status = (new ≡ old) × (needed ≡ 0) × (status ≡ pos 4)

abbrev pub Leaves : Printed → List ℕ → List ℕ → ℕ → ℤ → Type 0
Leaves due old new needed status = IsTold due old new needed status ⊎ IsRefused old new needed status

-- what `records` tells of a text
abbrev pub LeavesRecords : Asked → List ℕ → List ℕ → List ℕ → ℕ → ℤ → Type 0
LeavesRecords asked input old new needed status =
    ((text : List ℕ) × (ends : Status) × TellsRecords asked input text ends × IsTold (printed text ends) old new needed status)
    ⊎ IsRefused old new needed status

-- ---- flags

-- a line of JSON where that is asked for, else a drawing
abbrev pub drawing_of : Bool → Drawing
drawing_of true = Json
drawing_of false = Svg

-- a captured stream where that is said, else a trace; the terminal's side where its answers are asked for, else the host's
abbrev pub source_of : Bool → Source
source_of true = Stream
source_of false = Trace

abbrev pub side_of : Bool → Side
side_of true = Terminal
side_of false = Host

abbrev pub asked_of : Bool → Bool → Asked
asked_of stream answers = plain (source_of stream) (side_of answers)

-- demos are printed where they are asked for
abbrev pub demos_of : Bool → Demos
demos_of true = PrintedDemos
demos_of false = Omitted

-- fields as text where that is asked for, else in hexadecimal
abbrev pub form_of : Bool → Form
form_of true = Text
form_of false = Hexadecimal

-- all maps where no name is given
abbrev pub name_of : List ℕ → Option (List ℕ)
name_of [] = None
name_of (code ∷ codes) = Some (code ∷ codes)

-- the layout of one map where that is asked for, else records
abbrev pub map_form_of : Bool → MapForm
map_form_of true = map_forms.Layout
map_form_of false = map_forms.Records

-- what SEND MAP adds
abbrev pub control_of : Bool → Bool → Control
control_of freekb frset = record { free_keyboard = freekb; reset_modified = frset }
