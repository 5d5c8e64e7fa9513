-- Inputs and answers as the program holds them.
use Rattle.std.specs.Prelude.{◌≡◌, ℕ, List, map, Option, Some, None, Result, Ok, Err}
use Rattle.std.specs.List.{flat_map}
use Rattle.std.specs.Global.{Vec}
use Rattle.std.specs.String.{string_bytes}
use Rattle.ds_codec.specs.declared.size.Size.{Size}
use Rattle.ds_codec.specs.Geometry.{Sizes}
use Rattle.ds_keys.specs.declared.key.Key.{Key}
use Rattle.ds_strokes.specs.declared.stroke.Stroke.{Stroke}
use Rattle.ds_screen.specs.Picture.{Picture}
use Rattle.ds_terminal.specs.Runs.{RefusedRecord, all_shown}
use Rattle.scr_layout.specs.Layout.{Declaration}
use Rattle.order_lines.specs.Told.{told_held}
use Rattle.cli_commands.specs.declared.fault.Fault.{Fault}
use Rattle.cli_commands.specs.declared.fault.Fault.TheVariants.{RecordRefused}
use Rattle.cli_commands.specs.declared.input.records.Line as held_line
use Rattle.cli_commands.specs.declared.input.records.Line.TheVariants as line
use Rattle.cli_commands.specs.declared.input.records.Records as held_records
use Rattle.cli_commands.specs.declared.input.checking.Checking as held_checking
use Rattle.cli_commands.specs.declared.input.keys.KeyLine as held_key_line
use Rattle.cli_commands.specs.declared.input.keys.KeyLine.TheVariants as key_line
use Rattle.cli_commands.specs.declared.input.keys.Keys as held_keys
use Rattle.cli_commands.specs.declared.input.strokes.StrokeLine as held_stroke_line
use Rattle.cli_commands.specs.declared.input.strokes.StrokeLine.TheVariants as stroke_line
use Rattle.cli_commands.specs.declared.input.strokes.Strokes as held_strokes
use Rattle.cli_commands.specs.declared.input.drafts.OrderLine as held_order_line
use Rattle.cli_commands.specs.declared.input.drafts.OrderLine.TheVariants as order_line
use Rattle.cli_commands.specs.declared.commands.backward.Backward as held_backward
use Rattle.cli_commands.specs.declared.commands.backward.SizeInUse.{SizeInUse}
use Rattle.cli_commands.specs.declared.commands.backward.WrittenRecord.{WrittenRecord}
use Rattle.cli_commands.specs.declared.commands.backward.SizeInUse.TheVariants.{Default, Alternate}
use Rattle.cli_commands.specs.declared.input.sizes.SizeLine.TheVariants.{Refused}
use Rattle.cli_commands.specs.declared.output.answer.Answer.{Answer}
use Rattle.cli_commands.specs.declared.status.Status.TheVariants.{Done}
use Rattle.cli_commands.specs.Back.{bytes_line}
use Rattle.cli_commands.specs.Backward as backward
use Rattle.cli_commands.specs.Drafts as drafts
use Rattle.cli_commands.specs.Keys as keys
use Rattle.cli_commands.specs.Printed.{Printed, printed}
use Rattle.cli_commands.specs.Records as records
use Rattle.cli_commands.specs.Sizes.{usual_sizes}
use Rattle.cli_commands.specs.Strokes as strokes

abbrev pub records_held : List (Vec ℕ) → List (List ℕ)
records_held records = map (λ bytes. bytes.items) records

-- ---- inputs

abbrev pub line_seen : held_line.Line → records.Line
line_seen line.Ignored = records.ignored
line_seen (line.Sizes geometry) = records.sizes geometry
line_seen (line.Record bytes) = records.outbound bytes.items
line_seen line.Bad = records.bad

abbrev pub records_seen : held_records.Records → records.Records
records_seen told = record { size_line = told.size_line; geometry = told.geometry; records = records_held told.records.items }

-- the records that were checked as their lines came
abbrev pub records_checked : held_checking.Checking → records.Records
records_checked told = record { size_line = Refused; geometry = usual_sizes; records = told.checker.records }

-- the same beside the layout against which they were
abbrev pub checking_seen : held_checking.Checking → Declaration × records.Records
checking_seen told = (told.checker.layout, records_checked told)

abbrev pub key_line_seen : held_key_line.KeyLine → keys.KeyLine
key_line_seen key_line.Ignored = keys.ignored
key_line_seen (key_line.Named key) = keys.named key
key_line_seen key_line.Bad = keys.bad

abbrev pub keys_seen : held_keys.Keys → List Key
keys_seen told = told.keys.items

abbrev pub stroke_line_seen : held_stroke_line.StrokeLine → strokes.StrokeLine
stroke_line_seen stroke_line.Ignored = strokes.ignored
stroke_line_seen (stroke_line.Named stroke) = strokes.named stroke
stroke_line_seen stroke_line.Bad = strokes.bad

abbrev pub strokes_seen : held_strokes.Strokes → List Stroke
strokes_seen told = told.strokes.items

abbrev pub order_line_seen : held_order_line.OrderLine → drafts.OrderLine
order_line_seen order_line.Empty = drafts.empty
order_line_seen order_line.Comment = drafts.comment
order_line_seen (order_line.Sizes geometry) = drafts.sizes geometry
order_line_seen (order_line.Words told) = drafts.words (told_held told)
order_line_seen order_line.Bad = drafts.bad

abbrev pub size_in_use : Sizes → SizeInUse → Size
size_in_use geometry Default = geometry.default
size_in_use geometry Alternate = geometry.alternate

-- a text, unless there is a flaw
abbrev pub text_unless : Option Fault → List ℕ → Result (List ℕ) Fault
text_unless None text = Ok text
text_unless (Some flaw) text = Err flaw

abbrev pub written_line : WrittenRecord → List ℕ
written_line it = bytes_line it.bytes.items

abbrev pub backward_seen : held_backward.Backward → backward.Backward
backward_seen told =
    record {
      size_line = told.size_line;
      geometry = told.geometry;
      size = size_in_use told.geometry told.size;
      count = told.count;
      current = told.current;
      text = text_unless told.flaw (flat_map written_line told.records.items);
    }

-- the lines of records, as they are printed
abbrev pub written_printed : Vec WrittenRecord → Printed
written_printed records = printed (flat_map written_line records.items) Done

-- ---- answers

-- the records led from one picture to the other, or one is refused
abbrev pub ShowsAll : Picture → Picture → List (Vec ℕ) → Result (Unit {0}) Fault → Type 0
ShowsAll old new records (Ok done) = all_shown 0 old (records_held records) ≡ Ok new
ShowsAll old new records (Err fault) =
    (first : RefusedRecord) × (all_shown 0 old (records_held records) ≡ Err first) × (fault ≡ RecordRefused first.index first.why)

-- an answer as it is printed
abbrev pub answer_seen : Answer → Printed
answer_seen answer = record { text = string_bytes answer.text; status = answer.status }
