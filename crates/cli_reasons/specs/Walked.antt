-- What the lines of an input do, one after the other, up to the first that is refused.
use Rattle.std.specs.Prelude.{ℕ, ◌+◌, ◌-◌, ◌^◌, min, nat_lt, not, ◌&&◌, ◌||◌, Bool, true, false, List, [], ◌∷◌, length, is_some, Option, Some, None, if◌then◌else◌}
use Rattle.std.specs.Option.{option_map}
use Rattle.bstr.specs.Text.{without_terminator}
use Rattle.cli_reasons.specs.declared.flaw.Flaw.{Flaw}
use Rattle.cli_reasons.specs.declared.flaw.Limit.TheVariants.{Keys as MostKeys, RecordBytes, Records as MostRecords}
use Rattle.cli_reasons.specs.declared.flaw.Why.TheVariants.{NoCommand, SecondCommand, TooLong}
use Rattle.cli_reasons.specs.declared.judged.Judged.{Judged}
use Rattle.cli_reasons.specs.declared.judged.Judged.TheVariants.{Nothing, Sizes, Record, Key, Characters, Command, Order, End, Session, Refused}
use Rattle.cli_reasons.specs.declared.record_line.SizesBy.{SizesBy}
use Rattle.cli_reasons.specs.declared.record_line.SizesBy.TheVariants.{Line, Earlier, Layout}
use Rattle.cli_reasons.specs.declared.walk.Lines.{Lines}
use Rattle.cli_reasons.specs.declared.walk.Lines.TheVariants as lines
use Rattle.cli_reasons.specs.declared.walk.Walk.{Walk}
use Rattle.cli_reasons.specs.Counts.{next_number, over_limit}
use Rattle.cli_reasons.specs.Flaw.{flaw_at}
use Rattle.cli_reasons.specs.Judged.{is_session, judged_characters, judged_name, judged_order, judged_record, judged_stream, judged_trace, judged_turn}

-- the line of a number, counted from 1, which is refused
pub record Found : Type 0 where
  pub number : ℕ
  pub flaw : Flaw
  pub line : List ℕ

-- Where a walk stands between two lines: how many came; what tells the sizes from here on; how many records or keys came;
-- whether a record of orders has begun; the line that is refused; and whether one was too long to be told of.
pub record Walked : Type 0 where
  pub lines : Lines
  pub number : ℕ
  pub sizes : SizesBy
  pub count : ℕ
  pub begun : Bool
  pub found : Option Found
  pub over : Bool

-- ---- what a line does

abbrev pub judged_line : Lines → SizesBy → List ℕ → Judged
judged_line lines.Records sizes line = judged_record sizes line
judged_line lines.ReadRecords sizes line = judged_record sizes line
judged_line lines.SizedRecords sizes line = judged_record sizes line
judged_line lines.Answers sizes line = judged_record sizes line
judged_line lines.Turns sizes line = judged_turn sizes line
judged_line lines.SizedTurns sizes line = judged_turn sizes line
judged_line lines.AnswersOfTurns sizes line = judged_turn sizes line
judged_line (lines.Names names) sizes line = judged_name names line
judged_line lines.Orders sizes line = judged_order sizes line
judged_line lines.Characters sizes line = judged_characters sizes line
judged_line lines.Layout sizes line = Nothing
judged_line (lines.Buffer size) sizes line = Nothing
judged_line lines.Trace sizes line = judged_trace line
judged_line lines.Stream sizes line = judged_stream line

-- no line of sizes comes after this one
abbrev pub closed : SizesBy → SizesBy
closed Line = Earlier
closed Earlier = Earlier
closed Layout = Layout

-- what tells the sizes after a line, where a record of orders may have begun
abbrev pub sizes_after : Judged → Bool → SizesBy → SizesBy
sizes_after Sizes begun sizes = closed sizes
sizes_after (Record bytes) begun sizes = if nat_lt 32768 bytes then sizes else closed sizes
sizes_after Command begun sizes = if begun then sizes else closed sizes
sizes_after judged begun sizes = sizes

-- so many more keys than one
abbrev pub typed_more : ℕ → ℕ → ℕ
typed_more count typed = min (count + (typed - 1)) (2 ^ 64 - 1)

abbrev pub count_after : Judged → Bool → ℕ → ℕ
count_after (Record bytes) begun count = if nat_lt 32768 bytes then count else next_number count
count_after Key begun count = next_number count
count_after (Characters typed) begun count = next_number (typed_more count typed)
count_after Session begun count = next_number count
count_after Command begun count = if begun then count else next_number count
count_after judged begun count = count

abbrev pub begun_after : Judged → Bool → Bool
begun_after Command begun = true
begun_after End begun = false
begun_after judged begun = begun

-- what is wrong with a line after those before it
abbrev pub flaw_after : Judged → Bool → ℕ → Option Flaw
flaw_after (Record bytes) begun count = if nat_lt 32768 bytes then Some (flaw_at 1 (TooLong RecordBytes)) else over_limit count 1000 MostRecords
flaw_after Key begun count = over_limit count 100000 MostKeys
flaw_after (Characters typed) begun count = over_limit (typed_more count typed) 100000 MostKeys
flaw_after Command begun count = if begun then Some (flaw_at 1 SecondCommand) else over_limit count 1000 MostRecords
flaw_after Order begun count = if begun then None else Some (flaw_at 1 NoCommand)
flaw_after (Refused flaw) begun count = Some flaw
flaw_after judged begun count = None

-- ---- a line after those before it

abbrev pub found_as : ℕ → List ℕ → Flaw → Found
found_as number line flaw = record { number = number; flaw = flaw; line = line }

-- after a line that does this
abbrev pub after_judged : Walked → List ℕ → Judged → Walked
after_judged walked line judged = record walked {
  number = next_number walked.number;
  sizes = sizes_after judged walked.begun walked.sizes;
  count = count_after judged walked.begun walked.count;
  begun = begun_after judged walked.begun;
  found = option_map (found_as (next_number walked.number) line) (flaw_after judged walked.begun walked.count);
}

-- after a line without its end
abbrev pub after_line : Walked → List ℕ → Walked
after_line walked line = after_judged walked line (judged_line walked.lines walked.sizes line)

abbrev pub is_trace : Lines → Bool
is_trace lines.Trace = true
is_trace any = false

-- of longer lines nothing is told, nor of those that come after, but where it is a line of a trace that has no bytes of a side
abbrev pub is_too_long : Lines → List ℕ → Bool
is_too_long lines raw = nat_lt 16777219 (length raw) && not (is_trace lines && not (is_session raw))

-- a line was refused, or one was too long
abbrev pub is_done : Walked → Bool
is_done walked = is_some walked.found || walked.over

-- a line with its end, after those before it
abbrev pub hears : Walked → List ℕ → Walked
hears walked raw =
    if is_done walked then walked
    else (if is_too_long walked.lines raw then record walked { over = true } else after_line walked (without_terminator raw))

-- lines, one after the other
abbrev pub heard : Walked → List (List ℕ) → Walked
heard walked [] = walked
heard walked (raw ∷ raws) = heard (hears walked raw) raws

-- ---- before the first line

abbrev pub first_sizes : Lines → SizesBy
first_sizes lines.Records = Line
first_sizes lines.ReadRecords = Line
first_sizes lines.SizedTurns = Line
first_sizes lines.Orders = Line
first_sizes lines.Characters = Line
first_sizes any = Layout

abbrev pub begins : Lines → Walked
begins lines = record { lines = lines; number = 0; sizes = first_sizes lines; count = 0; begun = false; found = None; over = false }

-- where a walk of the program stands
abbrev pub walked_of : Walk → Walked
walked_of walk = record {
  lines = walk.lines;
  number = walk.number;
  sizes = walk.sizes;
  count = walk.count;
  begun = walk.in_record;
  found = option_map (λ line. found_as line.number line.line.items line.flaw) walk.found;
  over = walk.is_over;
}
