-- A whole script: what came of it, of hosts, files and clocks was taken in turn, each as it was wanted.
use Rattle.std.specs.Prelude.{◌≡◌, ◌≢◌, ◌<◌, ◌≤◌, ◌+◌, ◌-◌, ◌*◌, ◌^◌, ◌==◌, ◌&&◌, ℕ, nat_lt, Bool, true, map, slice_index, All, List, [], ◌∷◌, ◌++◌, length, Option, Some, None, Result, if◌then◌else◌}
use Rattle.cli_commands.specs.Lines.{lines_in}
use Rattle.script_checks.specs.ReadSeen.{read_seen}
use Rattle.cli_scripts.specs.Answers.{handed_lines}
use Rattle.cli_scripts.specs.declared.came.Came.{Came}
use Rattle.cli_scripts.specs.declared.came.Came.TheVariants as came
use Rattle.cli_scripts.specs.declared.came.Need.{Need}
use Rattle.cli_scripts.specs.declared.came.Need.TheVariants as needs
use Rattle.cli_scripts.specs.declared.came.Wants.{Wants}
use Rattle.cli_scripts.specs.declared.came.Wants.TheVariants as wanted
use Rattle.cli_scripts.specs.declared.script.Asked.{Asked}
use Rattle.cli_scripts.specs.declared.script.Asked.TheVariants as asked
use Rattle.cli_scripts.specs.declared.world.Patience.{Patience}
use Rattle.cli_scripts.specs.declared.world.Patience.TheVariants as patiences
use Rattle.cli_scripts.specs.Desks.{handed_due, handed_screens}
use Rattle.cli_scripts.specs.Machines.{AnswersSo, HearsNext, Scripted}
use Rattle.cli_scripts.specs.Performs.{TakesBy}

-- ---- one of what came

-- what may come: a line of the script, or one that is too long; bytes of a host, none as yet, none in time, the end of its line; a host that is
-- connected or not; a page that is written or not; and the text of a layout's file, or why it can't be read
pub data Event : Type 0 where
  a_line : List ℕ → Event
  a_long_line : Event
  some_bytes : List ℕ → Event
  nothing_yet : Event
  not_in_time : Event
  the_end : Event
  a_host : Event
  no_host : List ℕ → Event
  a_page : Event
  no_page : List ℕ → Event
  a_layout : Result (List ℕ) (List ℕ) → Event

abbrev pub event_of : Came → Event
event_of (came.Line line) = a_line line.now
event_of came.LongLine = a_long_line
event_of (came.Bytes bytes) = some_bytes bytes.now
event_of came.Nothing = nothing_yet
event_of came.Late = not_in_time
event_of came.Closed = the_end
event_of came.Connected = a_host
event_of (came.Unconnected why) = no_host why.now
event_of came.Written = a_page
event_of (came.Unwritten why) = no_page why.now
event_of (came.Layout text) = a_layout (read_seen text)

-- what may come for a need
abbrev pub Meets : Need → Event → Type 0
Meets needs.Arrived (some_bytes bytes) = Unit {0}
Meets needs.Arrived nothing_yet = Unit {0}
Meets needs.Arrived the_end = Unit {0}
Meets needs.Bytes (some_bytes bytes) = Unit {0}
Meets needs.Bytes not_in_time = Unit {0}
Meets needs.Bytes the_end = Unit {0}
Meets (needs.BytesWithin limit begins) (some_bytes bytes) = Unit {0}
Meets (needs.BytesWithin limit begins) not_in_time = Unit {0}
Meets (needs.BytesWithin limit begins) the_end = Unit {0}
Meets (needs.Pause time) not_in_time = Unit {0}
Meets needs.Connection a_host = Unit {0}
Meets needs.Connection (no_host why) = Unit {0}
Meets needs.Page a_page = Unit {0}
Meets needs.Page (no_page why) = Unit {0}
Meets needs.Layout (a_layout text) = Unit {0}
Meets need event = ⊥

abbrev pub IsLine : Event → Type 0
IsLine (a_line line) = Unit {0}
IsLine a_long_line = Unit {0}
IsLine event = ⊥

-- a line of the script after an answer, and else what is needed
abbrev pub IsGiven : Wants → Event → Type 0
IsGiven wanted.Line event = IsLine event
IsGiven (wanted.Need need) event = Meets need event
IsGiven wanted.Nothing event = ⊥

-- the bytes of a host among it
abbrev pub bytes_of : Event → List ℕ
bytes_of (some_bytes bytes) = bytes
bytes_of event = []

-- one of them was taken
pub record Takes (event : Event) (old : Scripted) (wants : Wants) (new : Scripted) : Type 0 where
  pub it : Came
  pub is : event_of it ≡ event
  pub by : TakesBy old.job it old wants new
  pub heard : HearsNext old.is_busy it old.desk new.desk
  pub page : new.code_page ≡ old.code_page
  pub gone : new.telling.gone ≡ old.telling.gone
  pub answered : AnswersSo true old wants new

-- ---- the script's lines

-- one that is too long isn't kept
abbrev pub kept_line : List ℕ → Option (List ℕ)
kept_line line = if nat_lt 65536 (length line) then None else Some line

-- the line of the script that came, if one did
abbrev pub line_of : Event → List (Option (List ℕ))
line_of (a_line line) = Some line ∷ []
line_of a_long_line = None ∷ []
line_of event = []

-- A line has at most 1,208,925,819,614,629,174,706,176 bytes: only so often is it read on.
abbrev pub IsShort : List ℕ → Type 0
IsShort line = length line ≤ 2 ^ 80

-- the next line was read, and these bytes are left
abbrev pub ReadsOn : List ℕ → Option (List ℕ) → Option (List ℕ) → Type 0
ReadsOn bytes line left =
    (first : List ℕ) × (rest : List ℕ) × (lines_in bytes ≡ first ∷ lines_in rest)
    × (IsShort first → (line ≡ kept_line first) × (left ≡ Some rest))

-- the same of lines in turn, where what the reader gives is known
abbrev pub ReadOf : Option (List ℕ) → Option (List ℕ) → Option (List ℕ) → Type 0
ReadOf None line left = Unit {0}
ReadOf (Some bytes) line left = ReadsOn bytes line left

abbrev pub AreRead : List (Option (List ℕ)) → Option (List ℕ) → Option (List ℕ) → Type 0
AreRead [] known left = left ≡ known
AreRead (line ∷ lines) known left = (mid : Option (List ℕ)) × ReadOf known line mid × AreRead lines mid left

-- what was asked for of the script, where the line that was read is this one
abbrev pub AsksFor : List ℕ → Asked → List ℕ → Option (List ℕ) → Type 0
AsksFor bytes asked.Line line left = ReadsOn bytes (Some line) left
AsksFor bytes asked.LongLine line left = ReadsOn bytes None left
AsksFor bytes asked.End line left = lines_in bytes ≡ []

-- They are the first lines of the script, and all of them unless it was told to end.
abbrev pub AreOfScript : List ℕ → List (Option (List ℕ)) → Wants → Type 0
AreOfScript bytes lines last =
    (left : List (List ℕ)) × (map kept_line (lines_in bytes) ≡ lines ++ map kept_line left) × (last ≡ wanted.Line → left ≡ [])

abbrev pub AreScript : Option (List ℕ) → List (Option (List ℕ)) → Wants → Type 0
AreScript None lines last = Unit {0}
AreScript (Some bytes) lines last = All IsShort (lines_in bytes) → AreOfScript bytes lines last

-- no line is left, or the script was told to end
abbrev pub HasEnded : Option (List ℕ) → Type 0
HasEnded None = Unit {0}
HasEnded (Some bytes) = lines_in bytes ≡ []

abbrev pub IsEnd : Wants → Type 0
IsEnd wanted.Line = Unit {0}
IsEnd (wanted.Need need) = ⊥
IsEnd wanted.Nothing = Unit {0}

abbrev pub IsEndAt : Wants → Option (List ℕ) → Type 0
IsEndAt wanted.Line known = HasEnded known
IsEndAt (wanted.Need need) known = ⊥
IsEndAt wanted.Nothing known = Unit {0}

-- whether a line has its end, an LF
abbrev pub has_end : List ℕ → Bool
has_end line = nat_lt 0 (length line) && slice_index line (length line - 1) == 10

-- of a line of which this was read the rest was read, so that these bytes are left
abbrev pub PassesLine : List ℕ → List ℕ → Option (List ℕ) → Type 0
PassesLine read bytes left =
    (first : List ℕ) × (rest : List ℕ) × (lines_in (read ++ bytes) ≡ first ∷ lines_in rest) × (65536 < length first) × (IsShort first → left ≡ Some rest)

-- for the code's own proofs: so many parts of it were read, and then this one
abbrev pub PassedSoFar : List ℕ → List ℕ → List ℕ → Option (List ℕ) → ℕ → Type 0
PassedSoFar read bytes part left parts =
    (front : List ℕ) × (rest : List ℕ) × (read ++ bytes ≡ front ++ (part ++ rest)) × (left ≡ Some rest) × All (λ b. b ≢ 10) front
    × (parts * 16777216 ≤ length front) × (length read ≤ length front + length part)

-- ---- all that came

-- what is due was handed out, and why a session failed
abbrev pub handed_due_of : Scripted → Scripted
handed_due_of m = record m { desk = record (handed_due m.desk) { fault = None } }

-- and the screens that are to be judged
abbrev pub handed_desk : Scripted → Scripted
handed_desk m = handed_due_of (record m { desk = handed_screens m.desk })

-- and the answers
abbrev pub handed_out : Scripted → Scripted
handed_out m = record (handed_desk m) { telling = handed_lines m.telling }

-- It was taken in turn, each as it was wanted, and after each all was handed out.
abbrev pub Turns : List Event → Wants → Scripted → Wants → Scripted → Type 0
Turns [] wants old last new = (last ≡ wants) × (new ≡ old)
Turns (event ∷ others) wants old last new =
    (next : Wants) × (mid : Scripted) × IsGiven wants event × Takes event old next mid × Turns others next (handed_out mid) last new

abbrev pub lines_of : List Event → List (Option (List ℕ))
lines_of [] = []
lines_of (event ∷ others) = line_of event ++ lines_of others

abbrev pub all_bytes : List Event → List ℕ
all_bytes [] = []
all_bytes (event ∷ others) = bytes_of event ++ all_bytes others

-- one of them came
abbrev pub GivesLine : Scripted → Wants → Scripted → Option (List ℕ) → Option (List ℕ) → Type 0
GivesLine old next new known left = (event : Event) × IsLine event × Takes event old next new × AreRead (line_of event) known left

abbrev pub GivesNeed : Need → Scripted → Wants → Scripted → List ℕ → List ℕ → Type 0
GivesNeed need old next new received received_new =
    (event : Event) × Meets need event × Takes event old next new × (received_new ≡ received ++ bytes_of event)

-- a read of the host, which waits so
abbrev pub need_of : Patience → Need
need_of patiences.None = needs.Arrived
need_of patiences.Endless = needs.Bytes
need_of (patiences.Within limit begins) = needs.BytesWithin limit begins

pub record Turned (wants : Wants) (old : Scripted) (next : Wants) (new : Scripted) (known left : Option (List ℕ))
    (received received_new : List ℕ) : Type 0 where
  pub event : Event
  pub given : IsGiven wants event
  pub takes : Takes event old next new
  pub reads : AreRead (line_of event) known left
  pub came : received_new ≡ received ++ bytes_of event

-- what came so far, of the script and of hosts
pub record Goes (old : Scripted) (wants : Wants) (new : Scripted) (known left : Option (List ℕ)) (received received_new : List ℕ) : Type 0 where
  pub events : List Event
  pub turns : Turns events wanted.Line old wants new
  pub reads : AreRead (lines_of events) known left
  pub came : received_new ≡ received ++ all_bytes events

-- The script was worked so, up to its end or to a line that ended it: its lines, the bytes of hosts, and the rest that came, led from one terminal
-- to the other.
pub record Ran (old new : Scripted) (known : Option (List ℕ)) (received received_new : List ℕ) : Type 0 where
  pub events : List Event
  pub last : Wants
  pub mid : Scripted
  pub turns : Turns events wanted.Line old last mid
  pub ends : IsEnd last
  pub handed : new ≡ handed_desk mid
  pub script : AreScript known (lines_of events) last
  pub came : received_new ≡ received ++ all_bytes events
