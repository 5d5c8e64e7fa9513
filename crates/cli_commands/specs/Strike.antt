-- What `press --strokes` prints, as a function of its two inputs, and its status.
use Rattle.std.specs.Prelude.{ℕ, false, List, [], ◌∷◌, ◌++◌, Result, Ok}
use Rattle.ds_codec.specs.Reading.{◌>>=◌}
use Rattle.ds_terminal.specs.Strokes.{stroke_turn}
use Rattle.ds_strokes.specs.declared.stroke.Stroke.{Stroke}
use Rattle.ds_strokes.specs.StrokeStep.{Operating, operating, after_stroke}
use Rattle.cli_commands.specs.declared.fault.Fault.{Fault}
use Rattle.cli_commands.specs.declared.input.sizes.SizeLine.TheVariants.{Allowed}
use Rattle.cli_commands.specs.declared.status.Status.TheVariants.{Done}
use Rattle.cli_commands.specs.Press.{turn_line}
use Rattle.cli_commands.specs.Printed.{Printed, printed, printed_or_fault}
use Rattle.cli_commands.specs.Records.{Records, records_in}
use Rattle.cli_commands.specs.Shown.{shown_on}
use Rattle.cli_commands.specs.Strokes.{strokes_in}

-- the lines of the strokes in turn
abbrev pub struck_text : Operating → List Stroke → List ℕ
struck_text o [] = []
struck_text o (stroke ∷ strokes) = turn_line (stroke_turn o stroke) ++ struck_text (after_stroke o stroke) strokes

-- the strokes on the screen that records leave on a new terminal, without insert mode at first
abbrev pub strike_told : Records → List Stroke → Result Printed Fault
strike_told told strokes = shown_on told.geometry told.records >>= λ v. Ok (printed (struck_text (operating v false) strokes) Done)

abbrev pub strike_lines : Records → List ℕ → Result Printed Fault
strike_lines told lines = strokes_in lines >>= strike_told told

abbrev pub strike : List ℕ → List ℕ → Result Printed Fault
strike records lines = records_in Allowed records >>= λ told. strike_lines told lines

-- what `press --strokes` prints for records and strokes, and its status
abbrev pub printed_strike : List ℕ → List ℕ → Printed
printed_strike records strokes = printed_or_fault (strike records strokes)
