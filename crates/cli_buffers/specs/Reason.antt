-- The line at which the answers are refused, and why.
use Rattle.std.specs.Prelude.{ℕ, List, [], ◌∷◌, Option, Some, None, Result, Ok, Err, if◌then◌else◌}
use Rattle.ds_codec.specs.Reading.{◌>>=◌}
use Rattle.buffer_lines.specs.declared.flaw.Flaw.{Flaw}
use Rattle.buffer_lines.specs.Flaw.{flaw_of}
use Rattle.buffer_lines.specs.Screen.{is_blank}
use Rattle.cli_commands.specs.declared.fault.Fault.{Fault}
use Rattle.cli_commands.specs.declared.fault.Fault.TheVariants.{BadLine, BadKeyLine, TooLong, LayoutRefused, RecordRefused, Unwritable, TurnLayoutRefused, OtherGeometry, OtherCount}
use Rattle.cli_commands.specs.Lines.{lines_in}
use Rattle.cli_buffers.specs.declared.reason.BufferFlaw.{BufferFlaw}
use Rattle.cli_buffers.specs.declared.reason.BufferWhy.{BufferWhy}
use Rattle.cli_buffers.specs.declared.reason.BufferWhy.TheVariants.{Line, OtherScreen, NoStatus}
use Rattle.cli_buffers.specs.declared.sizes.SizesLine.{SizesLine}
use Rattle.cli_buffers.specs.Reading.{Known, all_from, at_first, counted, ended, take_line}

-- a good line is refused only where its screen has another size than the first
abbrev pub why_by : Option Flaw → BufferWhy
why_by None = OtherScreen
why_by (Some flaw) = Line flaw

abbrev pub line_flaw : Known → List ℕ → BufferFlaw
line_flaw known line = record { number = (counted known).number; why = why_by (flaw_of known.opened line) }

-- the rows of a screen whose status line doesn't come are refused at the last line
abbrev pub end_flaw : Known → Option BufferFlaw
end_flaw known = if is_blank known.opened then None else Some (record { number = known.number; why = NoStatus })

abbrev pub unless_taken : BufferFlaw → Result Known Fault → (Known → Option BufferFlaw) → Option BufferFlaw
unless_taken flaw (Ok next) others = others next
unless_taken flaw (Err fault) others = Some flaw

-- that of the first line that isn't taken
abbrev pub flaw_from : SizesLine → Known → List (List ℕ) → Option BufferFlaw
flaw_from sizes known [] = end_flaw known
flaw_from sizes known (line ∷ lines) = unless_taken (line_flaw known line) (take_line sizes known line) (λ next. flaw_from sizes next lines)

abbrev pub buffer_flaw : SizesLine → List ℕ → Option BufferFlaw
buffer_flaw sizes text = flaw_from sizes at_first (lines_in text)

-- the line that a fault tells
abbrev pub line_of : Fault → Option ℕ
line_of (BadLine number) = Some number
line_of (BadKeyLine number) = None
line_of TooLong = None
line_of (LayoutRefused fault) = None
line_of (RecordRefused index refused) = None
line_of (Unwritable index flaw) = None
line_of (TurnLayoutRefused turn fault) = None
line_of (OtherGeometry turn) = None
line_of (OtherCount turns layouts) = None

abbrev pub refused_line : {A : Type 0} → Result A Fault → Option ℕ
refused_line (Ok x) = None
refused_line (Err fault) = line_of fault

-- the records of all lines, or the first fault
abbrev pub records_of : SizesLine → List ℕ → Result (List ℕ) Fault
records_of sizes text = all_from sizes at_first (lines_in text) >>= ended
