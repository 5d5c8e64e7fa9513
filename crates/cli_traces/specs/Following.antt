-- What is printed of a trace or a captured stream: each line adds its text, and the lines follow one another.
use Rattle.std.specs.List.{filter}
use Rattle.std.specs.Prelude.{ℕ, ◌+◌, ◌≡◌, ◌⊎◌, ◌==◌, not, nat_lt, Bool, true, false, ◌&&◌, List, [], ◌∷◌, ◌++◌, length, if◌then◌else◌}
use Rattle.tn_wire.specs.Stream.{Told}
use Rattle.tn_session.specs.declared.fault.RunFault.TheVariants.{Header as HeaderFails, Session as SessionFails}
use Rattle.tn_session.specs.Runs.{Log}
use Rattle.tn_session.specs.OneLog.{Standing, waits, has_failed, is_at_fault, HasLog}
use Rattle.tn_traces.specs.declared.line.Side.{Side}
use Rattle.tn_traces.specs.declared.line.Side.TheVariants.{Host, Terminal}
use Rattle.tn_traces.specs.Line.{Said, nothing, connected, piece, bad, trace_said, stream_said}
use Rattle.cli_traces.specs.declared.asked.Asked.{Asked}
use Rattle.cli_traces.specs.declared.asked.Source.{Source}
use Rattle.cli_traces.specs.declared.asked.Source.TheVariants.{Trace, Stream}
use Rattle.cli_traces.specs.declared.reading.Reading.{Reading}
use Rattle.cli_traces.specs.declared.turn.Turns.{Turns}
use Rattle.cli_traces.specs.declared.turn.Turns.TheVariants.{Unmarked, Marked, UpTo}
use Rattle.cli_traces.specs.Open.{open_text}
use Rattle.cli_traces.specs.Reading.{again, at_first, ends_text, event_log, scanned}
use Rattle.cli_traces.specs.Start.{may_cut, record_end}
use Rattle.cli_traces.specs.Text.{connection_text, refused_text, wire_name, header_name, other_size_name, fault_text}

-- ---- what is asked for

-- the records of a side alone
abbrev pub plain : Source → Side → Asked
plain source side = record { source = source; side = side; turns = Unmarked; all = false; size = false }

-- turns are asked of a stream, which shows one side and so tells of none
abbrev pub is_stream : Source → Bool
is_stream Trace = false
is_stream Stream = true

abbrev pub is_unmarked : Turns → Bool
is_unmarked Unmarked = true
is_unmarked Marked = false
is_unmarked (UpTo last) = false

abbrev pub is_one_sided : Asked → Bool
is_one_sided asked = is_stream asked.source && not (is_unmarked asked.turns)

-- bytes may be parted by colons, as by spaces
abbrev pub without_colons : List ℕ → List ℕ
without_colons line = filter (λ b. not (b == 0x3A)) line

abbrev pub said_from : Source → Side → List ℕ → Said
said_from Trace side line = trace_said line
said_from Stream side line = stream_said side (without_colons line)

-- the most bytes of a line, without its end
abbrev pub most_line : ℕ
most_line = 16777216

-- a line that is too long is refused
abbrev pub said_of : Asked → List ℕ → Said
said_of asked line = if nat_lt most_line (length line) then bad else said_from asked.source asked.side line

-- ---- a connection

-- what is open of each side's stream, as it was spelled, and what is known beside it
pub record Following : Type 0 where
  pub host : List ℕ
  pub terminal : List ℕ
  pub reading : Reading

abbrev pub connection : Reading → Following
connection reading = record { host = []; terminal = []; reading = reading }

-- before the first line
abbrev pub beginning : Following
beginning = connection at_first

abbrev pub open_of : Side → Following → List ℕ
open_of Host following = following.host
open_of Terminal following = following.terminal

abbrev pub with_open : Side → Following → List ℕ → Reading → Following
with_open Host following left reading = record { host = left; terminal = following.terminal; reading = reading }
with_open Terminal following left reading = record { host = following.host; terminal = left; reading = reading }

-- what is open of the stream whose records are asked for, at a connection's end
abbrev pub left_text : Asked → Following → List ℕ
left_text asked following = open_text (length (open_of asked.side following))

-- ---- a line

-- the lines go on from here, or the command ends
pub data Course : Type 0 where
  goes : Following → Course
  stops : Course

-- what an event does that this side sent
abbrev pub act_of : Asked → Side → ℕ → Reading → Told → Log Reading
act_of asked side number = event_log asked side number

-- The log of a piece is its text; after a fault of the stream, of a header or of the sizes there is a line of it, and the end.
abbrev pub AddsLog : ℕ → Side → Following → List ℕ → Standing Reading → List ℕ → Course → Type 0
AddsLog number side following due (waits reading left) text course =
    (text ≡ due) × (course ≡ goes (with_open side following left reading))
AddsLog number side following due (is_at_fault fault last) text course =
    (text ≡ due ++ fault_text number (wire_name fault)) × (course ≡ stops)
AddsLog number side following due (has_failed (HeaderFails fault) last) text course =
    (text ≡ due ++ fault_text number (header_name fault)) × (course ≡ stops)
AddsLog number side following due (has_failed (SessionFails fault) last) text course =
    (text ≡ due ++ fault_text number other_size_name) × (course ≡ stops)
AddsLog number side following due standing text course = ⊥

-- a piece of what this side sent
pub record AddsPiece (asked : Asked) (number : ℕ) (side : Side) (following : Following) (bytes text : List ℕ) (course : Course) : Type 0 where
  pub due : List ℕ
  pub standing : Standing Reading
  pub log : HasLog (act_of asked side number) (open_of side following) following.reading bytes due standing
  pub adds : AddsLog number side following due standing text course

-- ---- the bytes of a piece

-- this adds its text and leads on, and that goes on from there; or this ends all
abbrev pub AddsThen : (List ℕ → Course → Type 0) → (Following → List ℕ → Course → Type 0) → List ℕ → Course → Type 0
AddsThen this that text course =
    (this text stops × (course ≡ stops))
    ⊎ ((first : List ℕ) × (others : List ℕ) × (next : Following) × this first (goes next) × (text ≡ first ++ others) × that next others course)

-- after a command of the host's negotiation, and before any record of it, what is open is text: it is ended here by an end of
-- a record of our own
abbrev pub end_of_text : Side → Reading → List ℕ
end_of_text side reading = if ends_text side reading then record_end else []

-- a byte that was seen, while text may come
abbrev pub with_seen : ℕ → Following → Following
with_seen byte following = record following { reading = scanned byte following.reading }

-- a byte, while text may come
abbrev pub AddsByte : Asked → ℕ → Side → Following → ℕ → List ℕ → Course → Type 0
AddsByte asked number side following byte text course =
    AddsThen (AddsPiece asked number side (with_seen byte following) (byte ∷ [])) (λ next. AddsPiece asked number side next (end_of_text side next.reading)) text course

abbrev pub AddsEither : Bool → Type 0 → Type 0 → Type 0
AddsEither true one other = one
AddsEither false one other = other

-- bytes that this side sent: one by one while text may come, and then all others as they are
abbrev pub AddsBytes : Asked → ℕ → Side → Following → List ℕ → List ℕ → Course → Type 0
AddsBytes asked number side following [] text course = (text ≡ []) × (course ≡ goes following)
AddsBytes asked number side following (byte ∷ bytes) text course =
    AddsEither (may_cut side following.reading.start)
    (AddsThen (AddsByte asked number side following byte) (λ next. AddsBytes asked number side next bytes) text course)
    (AddsPiece asked number side following (byte ∷ bytes) text course)

abbrev pub AddsSaid : Asked → ℕ → Following → Said → List ℕ → Course → Type 0
AddsSaid asked number following nothing text course = (text ≡ []) × (course ≡ goes following)
AddsSaid asked number following connected text course =
    (text ≡ left_text asked following ++ connection_text number) × (course ≡ goes (connection (again following.reading)))
AddsSaid asked number following (piece side bytes) text course = AddsBytes asked number side following bytes text course
AddsSaid asked number following bad text course = (text ≡ refused_text number) × (course ≡ stops)

-- the line of this number adds this text
abbrev pub Adds : Asked → ℕ → Following → List ℕ → List ℕ → Course → Type 0
Adds asked number following line text course = AddsSaid asked number following (said_of asked line) text course

-- ---- lines in turn

-- these lines, of which the first has this number, lead from here to there, with this text
abbrev pub Leads : Asked → ℕ → Following → List (List ℕ) → List ℕ → Following → Type 0
Leads asked number following [] text last = (text ≡ []) × (last ≡ following)
Leads asked number following (line ∷ lines) text last = (first : List ℕ) × (others : List ℕ) × (next : Following)
    × Adds asked number following line first (goes next) × (text ≡ first ++ others) × Leads asked (number + 1) next lines others last

-- the lines of a front of the input lead to this text
pub record IsSoFar (asked : Asked) (lines : List (List ℕ)) (text : List ℕ) : Type 0 where
  pub front : List (List ℕ)
  pub more : List (List ℕ)
  pub last : Following
  pub whole : lines ≡ front ++ more
  pub leads : Leads asked 1 beginning front text last

-- all lines lead to this text, with what is left open at their end
pub record IsAll (asked : Asked) (lines : List (List ℕ)) (text : List ℕ) : Type 0 where
  pub before : List ℕ
  pub last : Following
  pub leads : Leads asked 1 beginning lines before last
  pub joined : text ≡ before ++ left_text asked last

-- some line is the last that counts: it is refused, or has a fault
pub record EndsEarly (asked : Asked) (lines : List (List ℕ)) (text : List ℕ) : Type 0 where
  pub front : List (List ℕ)
  pub line : List ℕ
  pub more : List (List ℕ)
  pub before : List ℕ
  pub end : List ℕ
  pub last : Following
  pub whole : lines ≡ front ++ line ∷ more
  pub leads : Leads asked 1 beginning front before last
  pub ends : Adds asked (1 + length front) last line end stops
  pub joined : text ≡ before ++ end
