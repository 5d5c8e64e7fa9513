-- What an ear has heard of an input, and what it says of it.
use Rattle.std.specs.Prelude.{◌≡◌, ◌≢◌, ◌⊎◌, ◌<◌, ◌≤◌, ℕ, ◌+◌, ◌-◌, ◌^◌, min, nat_eq, nat_lt, not, ◌&&◌, ◌||◌, Bool, true, false, List, [], ◌∷◌, ◌++◌, length, slice_index, Option, Some, None, Result, Ok, Err, if◌then◌else◌}
use Rattle.std.specs.Option.{option_map}
use Rattle.bstr.specs.Text.{lines_of}
use Rattle.cli_characters.specs.Convert.{back_characters}
use Rattle.cli_commands.specs.Back.{back}
use Rattle.cli_commands.specs.Convert.{convert}
use Rattle.scr_layout.specs.Layout.{Declaration}
use Rattle.cli_commands.specs.Lines.{lines_in}
use Rattle.cli_commands.specs.LayoutText.{layout_in}
use Rattle.cli_commands.specs.Printed.{Printed}
use Rattle.cli_commands.specs.Show.{show}
use Rattle.cli_commands.specs.TurnLines.{is_turn}
use Rattle.cli_commands.specs.declared.fault.Fault.{Fault}
use Rattle.cli_reasons.specs.declared.ear.Ear.{Ear}
use Rattle.cli_reasons.specs.declared.flaw.Limit.TheVariants.{Bytes}
use Rattle.cli_reasons.specs.declared.flaw.Why.TheVariants.{TooLong}
use Rattle.cli_reasons.specs.declared.walk.Lines.{Lines}
use Rattle.cli_reasons.specs.declared.walk.Lines.TheVariants as lines
use Rattle.cli_reasons.specs.BufferLine.{buffer_sentence}
use Rattle.cli_reasons.specs.Flaw.{flaw_at}
use Rattle.cli_reasons.specs.Judged.{is_session}
use Rattle.cli_reasons.specs.RefusedAnswer.{answers_said}
use Rattle.cli_reasons.specs.RefusedRecord.{refusal_sentence}
use Rattle.cli_reasons.specs.SaysLayout.{SaysLayout}
use Rattle.cli_reasons.specs.Sentence.{sentence}
use Rattle.cli_reasons.specs.Walked.{Found, Walked, begins, heard, is_done, is_trace, walked_of}

-- ---- what is kept

-- the text is kept whole, and no line of it is heard
abbrev pub is_whole : Lines → Bool
is_whole lines.Layout = true
is_whole (lines.Buffer size) = true
is_whole any = false

-- records are told, of which one may be refused
abbrev pub tells_records : Lines → Bool
tells_records lines.Records = true
tells_records lines.ReadRecords = true
tells_records lines.Orders = true
tells_records lines.Characters = true
tells_records any = false

-- something may be said of the text once all of it came
abbrev pub needs_text : Lines → Bool
needs_text lines.Answers = true
needs_text lines.AnswersOfTurns = true
needs_text any = tells_records any

-- the input may have any number of bytes
abbrev pub is_endless : Lines → Bool
is_endless lines.Trace = true
is_endless lines.Stream = true
is_endless any = false

-- so much of a line is kept that no more of it counts
abbrev pub is_enough : Lines → List ℕ → Bool
is_enough lines kept = nat_lt 16777219 (length kept) || (is_trace lines && (nat_lt 64 (length kept) && not (is_session kept)))

-- a front of a line is kept: all of it, or enough
abbrev pub IsKept : Lines → List ℕ → List ℕ → Type 0
IsKept lines line kept = (more : List ℕ) × (line ≡ kept ++ more) × ((more ≡ []) ⊎ (is_enough lines kept ≡ true))

abbrev pub HasNoFeed : List ℕ → Type 0
HasNoFeed bytes = (k : ℕ) → k < length bytes → slice_index bytes k ≢ 10

-- a line with its LF
abbrev pub IsLine : List ℕ → Type 0
IsLine line = (front : List ℕ) × (line ≡ front ++ 10 ∷ []) × HasNoFeed front

-- the bytes end a line, or there are none
abbrev pub EndsLine : List ℕ → Type 0
EndsLine bytes = (length bytes ≡ 0) ⊎ (slice_index bytes (length bytes - 1) ≡ 10)

-- the line that has begun, where more may come of it
abbrev pub IsOpen : Lines → List ℕ → List ℕ → Type 0
IsOpen lines line kept = HasNoFeed line × IsKept lines line kept

-- ---- what was heard

-- Of these bytes the lines that ended were heard, and the one that has begun is kept. Once a line is refused nothing more is kept.
pub record HearsLines (past : List ℕ) (at : Walked) (kept : List ℕ) : Type 0 where
  pub ended : List ℕ
  pub line : List ℕ
  pub split : past ≡ ended ++ line
  pub ends : EndsLine ended
  pub walked : at ≡ heard (begins at.lines) (lines_of ended)
  pub begun : is_done at ≡ false → IsOpen at.lines line kept

-- all lines were heard, the last one too
abbrev pub EndedLines : List ℕ → Walked → List ℕ → Type 0
EndedLines past walked kept = (walked ≡ heard (begins walked.lines) (lines_of past)) × ((is_done walked ≡ true) ⊎ (kept ≡ []))

-- the text, as long as no line of it is refused, up to 1,048,576 bytes
abbrev pub KeepsText : List ℕ → Ear → Type 0
KeepsText past ear = needs_text ear.walk.lines ≡ true → length past ≤ 1048576 → ear.text.items ≡ past

-- Of these bytes an ear holds what it needs: the text, as long as no line of it is refused, up to 1,048,576 bytes; all of what is kept
-- whole; and what its lines did.
pub record Holds (Heard : List ℕ → Walked → List ℕ → Type 0) (past : List ℕ) (ear : Ear) : Type 0 where
  pub text : is_done (walked_of ear.walk) ≡ false → KeepsText past ear
  pub whole : is_whole ear.walk.lines ≡ true → (walked_of ear.walk ≡ begins ear.walk.lines) × IsKept ear.walk.lines past ear.kept.items
  pub lines : is_whole ear.walk.lines ≡ false → Heard past (walked_of ear.walk) ear.kept.items

-- these bytes came, and no others
abbrev pub HasCome : List ℕ → Ear → Type 0
HasCome past ear = ear.bytes ≡ min (length past) (2 ^ 64 - 1)

-- an ear has heard these bytes, and holds what it needs, unless memory was refused
abbrev pub HasHeard : (List ℕ → Walked → List ℕ → Type 0) → List ℕ → Ear → Type 0
HasHeard Heard past ear = HasCome past ear × (ear.is_deaf ≡ false → Holds Heard past ear)

-- it has, and more may come
abbrev pub Hears : List ℕ → Ear → Type 0
Hears = HasHeard HearsLines

-- it has, and these were all
abbrev pub HasEnded : List ℕ → Ear → Type 0
HasEnded = HasHeard EndedLines

abbrev pub IsHeard : List ℕ → Ear → Type 0
IsHeard past ear = Hears past ear ⊎ HasEnded past ear

-- what an ear's lines did, where more may come
abbrev pub HearsOf : List ℕ → Ear → Type 0
HearsOf past ear = HearsLines past (walked_of ear.walk) ear.kept.items

-- more may come, or these were all
abbrev pub HoldsSome : List ℕ → Ear → Type 0
HoldsSome past ear = Holds HearsLines past ear ⊎ Holds EndedLines past ear

-- how many bytes came, the text, and what the lines are stay
pub record Beside (old new : Ear) : Type 0 where
  pub bytes : new.bytes ≡ old.bytes
  pub text : new.text.items ≡ old.text.items
  pub deaf : new.is_deaf ≡ old.is_deaf
  pub lines : new.walk.lines ≡ old.walk.lines

-- ---- what is said

-- where a walk over all lines of a text ends
abbrev pub walked_over : Lines → List ℕ → Walked
walked_over lines past = heard (begins lines) (lines_of past)

-- of a line of 16,777,219 bytes or more nothing is said
abbrev pub line_said : List ℕ → Found → Option (List ℕ)
line_said name found = if nat_lt (length found.line) 16777219 then Some (sentence name found.number found.flaw found.line) else None

abbrev pub found_said : List ℕ → Option Found → Option (List ℕ)
found_said name None = None
found_said name (Some found) = line_said name found

-- of the first line that is refused
abbrev pub lines_said : Lines → List ℕ → List ℕ → Option (List ℕ)
lines_said (lines.Buffer size) name past = buffer_sentence name size past
lines_said any name past = found_said name (walked_over any past).found

abbrev pub input_said : Lines → List ℕ → List ℕ → Option (List ℕ)
input_said lines name past =
    if nat_lt 16777216 (length past) && not (is_endless lines) then Some (sentence name 1 (flaw_at 1 (TooLong Bytes)) [])
    else lines_said lines name past

-- of a layout, or of the lines of another input
abbrev pub Says : Lines → List ℕ → List ℕ → Option (List ℕ) → Type 0
Says lines.Layout name past said = SaysLayout name past said (layout_in past)
Says any name past said = said ≡ input_said any name past

-- what the command of these lines answers
abbrev pub answered : Lines → List ℕ → Result Printed Fault
answered lines.ReadRecords text = convert text
answered lines.Orders text = back text
answered lines.Characters text = back_characters text
answered any text = show text

abbrev pub refused_by : List ℕ → List ℕ → Result Printed Fault → Option (List ℕ)
refused_by name text (Ok answer) = None
refused_by name text (Err fault) = refusal_sentence name text fault

-- of longer texts nothing is said
abbrev pub is_long_text : List ℕ → Bool
is_long_text text = nat_lt 16777216 (length text)

-- of the record of a text that is refused, or cannot be written
abbrev pub record_said : Lines → List ℕ → List ℕ → Option (List ℕ)
record_said lines name text = if is_long_text text then None else refused_by name text (answered lines text)

-- the same where no line is refused, and the text has at most 1,048,576 bytes
abbrev pub refusal_said : Lines → List ℕ → List ℕ → Option (List ℕ)
refusal_said lines name past =
    if is_done (walked_over lines past) || (not (tells_records lines) || nat_lt 1048576 (length past)) then None
    else record_said lines name past

-- how many turns the lines have: one more than there are lines `turn`
abbrev pub turns_in : List (List ℕ) → ℕ
turns_in [] = 1
turns_in (line ∷ lines) = if is_turn line then turns_in lines + 1 else turns_in lines

-- of answers, where there is a layout for each turn
abbrev pub turns_said : List ℕ → List Declaration → List ℕ → Option (List ℕ)
turns_said name layouts text =
    if is_long_text text || not (nat_eq (turns_in (lines_in text)) (length layouts)) then None
    else Some (answers_said name 1 layouts (lines_in text))

-- the same where no line is refused, and the text has at most 1,048,576 bytes
abbrev pub all_said : Lines → List ℕ → List Declaration → List ℕ → Option (List ℕ)
all_said lines name layouts past =
    if is_done (walked_over lines past) || (not (needs_text lines) || nat_lt 1048576 (length past)) then None
    else turns_said name layouts past
