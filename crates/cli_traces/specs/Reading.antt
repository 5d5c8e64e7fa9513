-- What an event of a stream adds to the text.
use Rattle.std.specs.Prelude.{ℕ, ◌+◌, ◌==◌, min, Bool, true, false, ◌&&◌, not, List, [], ◌∷◌, ◌++◌, drop, Option, Some, None, Result, Ok, Err, if◌then◌else◌}
use Rattle.tn_wire.specs.declared.header.Header.{Header}
use Rattle.tn_wire.specs.declared.header.HeaderFault.{HeaderFault}
use Rattle.tn_wire.specs.Stream.{Told, told_record, told_verb, told_sub, told_passed}
use Rattle.tn_cores.specs.declared.device.ScreenModel.{ScreenModel}
use Rattle.tn_cores.specs.declared.device.ScreenModel.TheVariants.{Two, Three, Four, Five}
use Rattle.tn_cores.specs.declared.session.SessionFault.TheVariants.{NoDevice}
use Rattle.tn_session.specs.declared.fault.RunFault.{RunFault}
use Rattle.tn_session.specs.declared.fault.RunFault.TheVariants.{Header as HeaderFails, Session as SessionFails}
use Rattle.tn_session.specs.Runs.{Log, going, failed}
use Rattle.tn_traces.specs.declared.line.Side.{Side}
use Rattle.tn_traces.specs.declared.line.Side.TheVariants.{Host, Terminal}
use Rattle.tn_traces.specs.declared.negotiated.Negotiated.TheVariants.{Classic}
use Rattle.tn_traces.specs.declared.negotiated.Sender.{Sender}
use Rattle.tn_traces.specs.declared.negotiated.Sender.TheVariants as sends
use Rattle.tn_traces.specs.declared.negotiated.Sender.TheVariants.{OnlyHost, OnlyTerminal}
use Rattle.tn_traces.specs.Negotiated.{negotiated_after}
use Rattle.tn_traces.specs.Record.{Kept, kept_of}
use Rattle.cli_traces.specs.declared.asked.Asked.{Asked}
use Rattle.cli_traces.specs.declared.asked.Source.{Source}
use Rattle.cli_traces.specs.declared.asked.Source.TheVariants.{Trace, Stream}
use Rattle.cli_traces.specs.declared.reading.Reading.{Reading}
use Rattle.cli_traces.specs.declared.start.Place.TheVariants.{Data}
use Rattle.cli_traces.specs.declared.start.Start.TheVariants.{Agreeing}
use Rattle.cli_traces.specs.declared.text.Shape.{Shape}
use Rattle.cli_traces.specs.declared.text.Shape.TheVariants.{Comment, Line, Fields}
use Rattle.cli_traces.specs.declared.turn.Stage.TheVariants.{Blank}
use Rattle.cli_traces.specs.Device.{device_named, device_text, model_of, size_text}
use Rattle.cli_traces.specs.Fields.{fields_in, drawn_of}
use Rattle.cli_traces.specs.Start.{is_cutting, place_after, plain_after, start_after, start_with}
use Rattle.cli_traces.specs.Text.{fields_text, plain_text, record_text, shape_of}
use Rattle.cli_traces.specs.Turns.{begins, stage_after, turn_after, turn_text, is_marked, is_within}

-- ---- a connection

-- before the first line
abbrev pub at_first : Reading
at_first = record { start = Agreeing; place = Data; plain = true; now = Classic; named = None; sized = None; count = 0; fields = 0; stage = Blank; turn = 0 }

-- A connection begins in a classic session, with a device of its own. The counts, the dialogue and the line of sizes go on.
abbrev pub again : Reading → Reading
again reading = record reading { start = Agreeing; place = Data; plain = true; now = Classic; named = None }

-- a trace shows both sides, a stream one
abbrev pub sender_of : Source → Side → Sender
sender_of Trace Host = sends.Host
sender_of Trace Terminal = sends.Terminal
sender_of Stream Host = OnlyHost
sender_of Stream Terminal = OnlyTerminal

-- whether an event counts as a record that is asked for
abbrev pub same_side : Side → Side → Bool
same_side Host Host = true
same_side Host Terminal = false
same_side Terminal Host = false
same_side Terminal Terminal = true

-- whether a record of this side is printed, in this turn
unfoldable pub is_printed : Asked → Side → ℕ → Bool
is_printed asked side turn = same_side side asked.side && is_within side asked.turns turn

-- ---- the sizes

abbrev pub is_model : ScreenModel → ScreenModel → Bool
is_model Two Two = true
is_model Three Three = true
is_model Four Four = true
is_model Five Five = true
is_model one other = false

-- the line of sizes, where the device is known and no such line was printed
abbrev pub size_line : Option ScreenModel → Option ScreenModel → List ℕ
size_line (Some model) None = size_text model
size_line named sized = []

unfoldable pub sizes_text : Bool → Reading → List ℕ
sizes_text size reading = if size then size_line reading.named reading.sized else []

abbrev pub first_sized : Option ScreenModel → Option ScreenModel → Option ScreenModel
first_sized (Some model) named = Some model
first_sized None named = named

unfoldable pub sized_after : Bool → Reading → Option ScreenModel
sized_after size reading = if size then first_sized reading.sized reading.named else reading.sized

-- A device that is known has other sizes than the line of sizes says; or no such line stands before the first record.
abbrev pub is_other : ℕ → Option ScreenModel → Option ScreenModel → Bool
is_other count (Some model) (Some sized) = not (is_model model sized)
is_other count (Some model) None = not (count == 0)
is_other count None sized = false

unfoldable pub has_other_size : Bool → Reading → Bool
has_other_size size reading = size && is_other reading.count reading.named reading.sized

-- ---- records

-- in the turn that a record begins or is in
abbrev pub in_turn : Side → Reading → List ℕ → Reading
in_turn side reading body =
    record reading { stage = stage_after side reading.stage body; turn = turn_after side reading.stage reading.turn }

abbrev pub counted : Asked → Reading → Reading
counted asked reading = record reading { count = min (reading.count + 1) 18446744073709551615; sized = sized_after asked.size reading }

-- the text of a record alone, and what is known after it
unfoldable pub line_text : Asked → Side → ℕ → Option Header → Reading → List ℕ → List ℕ
line_text asked side line header reading body =
    if is_printed asked side reading.turn
    then sizes_text asked.size reading ++ record_text reading.count line (record { header = header; body = body }) else []

unfoldable pub line_after : Asked → Side → Reading → Reading
line_after asked side reading = if is_printed asked side reading.turn then counted asked reading else reading

-- the same of a record that may begin a turn
unfoldable pub body_text : Asked → Side → ℕ → Option Header → Reading → List ℕ → List ℕ
body_text asked side line header reading body =
    turn_text asked.turns (begins side reading.stage) ++ line_text asked side line header (in_turn side reading body) body

unfoldable pub body_after : Asked → Side → Reading → List ℕ → Reading
body_after asked side reading body = line_after asked side (in_turn side reading body)

-- the same where there may be no byte, and so no record
unfoldable pub some_text : Asked → Side → ℕ → Option Header → Reading → List ℕ → List ℕ
some_text asked side line header reading [] = []
some_text asked side line header reading (byte ∷ bytes) = body_text asked side line header reading (byte ∷ bytes)

unfoldable pub some_after : Asked → Side → Reading → List ℕ → Reading
some_after asked side reading [] = reading
some_after asked side reading (byte ∷ bytes) = body_after asked side reading (byte ∷ bytes)

-- records in turn
abbrev pub bodies_text : Asked → Side → ℕ → Option Header → Reading → List (List ℕ) → List ℕ
bodies_text asked side line header reading [] = []
bodies_text asked side line header reading (body ∷ bodies) =
    some_text asked side line header reading body ++ bodies_text asked side line header (some_after asked side reading body) bodies

abbrev pub bodies_after : Asked → Side → Reading → List (List ℕ) → Reading
bodies_after asked side reading [] = reading
bodies_after asked side reading (body ∷ bodies) = bodies_after asked side (some_after asked side reading body) bodies

-- the comment of a record of structured fields
unfoldable pub head_text : Asked → Side → ℕ → Reading → Kept → List ℕ
head_text asked side line reading kept = if is_printed asked side reading.turn then fields_text reading.fields line kept else []

unfoldable pub head_after : Asked → Side → Reading → Reading
head_after asked side reading =
    if is_printed asked side reading.turn then record reading { fields = min (reading.fields + 1) 18446744073709551615 } else reading

-- what the host's fields draw
abbrev pub drawn_by : Side → List ℕ → List (List ℕ)
drawn_by Host body = drawn_of (fields_in (drop 1 body))
drawn_by Terminal body = []

-- the fault of a device of other sizes
abbrev pub other_size : RunFault
other_size = SessionFails NoDevice

-- a line of sizes can't be true of the record
unfoldable pub ends_size : Asked → Side → Reading → Bool
ends_size asked side reading =
    is_printed asked side (turn_after side reading.stage reading.turn) && has_other_size asked.size reading

abbrev pub if_sized : Bool → Reading → Log Reading → Log Reading
if_sized ends reading log = if ends then failed other_size reading else log

abbrev pub shaped_log : Asked → Side → ℕ → Reading → Kept → Shape → Log Reading
shaped_log asked side line reading kept Comment =
    going (if is_printed asked side reading.turn then record_text reading.count line kept else []) reading
shaped_log asked side line reading kept Line =
    if_sized (ends_size asked side reading) reading
    (going (body_text asked side line kept.header reading kept.body) (body_after asked side reading kept.body))
shaped_log asked side line reading kept Fields =
    if_sized (ends_size asked side reading) reading
    (going (head_text asked side line reading kept ++ bodies_text asked side line kept.header (head_after asked side reading) (drawn_by side kept.body))
    (bodies_after asked side (head_after asked side reading) (drawn_by side kept.body)))

-- a fault of a header is one of the side that is asked for
abbrev pub kept_log : Asked → Side → ℕ → Reading → Result Kept HeaderFault → Log Reading
kept_log asked side line reading (Ok kept) = shaped_log asked side line reading kept (shape_of asked.all side kept)
kept_log asked side line reading (Err fault) = if same_side side asked.side then failed (HeaderFails fault) reading else going [] reading

-- one more byte of the host's, before its first record
abbrev pub scanned : ℕ → Reading → Reading
scanned byte reading = record reading { place = place_after reading.place byte; plain = plain_after reading.place byte reading.plain }

-- what is open is text, and ends here
abbrev pub ends_text : Side → Reading → Bool
ends_text side reading = is_cutting side reading.start && reading.plain

-- Text before the session, which our own end of a record ended: a comment, where there is any.
unfoldable pub before_text : Asked → Side → ℕ → Reading → List ℕ → List ℕ
before_text asked side line reading [] = []
before_text asked side line reading (byte ∷ bytes) = if is_printed asked side reading.turn then plain_text line (byte ∷ bytes) else []

abbrev pub text_log : Asked → Side → ℕ → Reading → List ℕ → Log Reading
text_log asked side line reading bytes = going (before_text asked side line reading bytes) (record reading { start = Agreeing })

abbrev pub with_record : Side → Reading → Reading
with_record side reading = record reading { start = start_with side reading.start }

abbrev pub record_log : Asked → Side → ℕ → Reading → List ℕ → Log Reading
record_log asked side line reading bytes =
    if ends_text side reading then text_log asked side line reading bytes
    else kept_log asked side line (with_record side reading) (kept_of reading.now bytes)

-- ---- events

abbrev pub named_after : Option ScreenModel → Option (List ℕ) → Option ScreenModel
named_after named None = named
named_after named (Some name) = model_of name

-- a device is told beside turns and sizes
abbrev pub tells_device : Asked → Bool
tells_device asked = if asked.size then true else is_marked asked.turns

abbrev pub named_text : Asked → Option (List ℕ) → List ℕ
named_text asked None = []
named_text asked (Some name) = if tells_device asked then device_text name else []

abbrev pub negotiated_log : Asked → Side → Sender → Reading → Told → Log Reading
negotiated_log asked side sender reading event =
    going (named_text asked (device_named sender event))
    (record reading { start = start_after side reading.start event; now = negotiated_after sender reading.now event; named = named_after reading.named (device_named sender event) })

-- The text of an event that ends in the line of this number. Every event counts for what is agreed, and each side's records
-- for the turn.
abbrev pub event_log : Asked → Side → ℕ → Reading → Told → Log Reading
event_log asked side line reading (told_record bytes) = record_log asked side line reading bytes
event_log asked side line reading (told_verb verb option) = negotiated_log asked side (sender_of asked.source side) reading (told_verb verb option)
event_log asked side line reading (told_sub option parameters) = negotiated_log asked side (sender_of asked.source side) reading (told_sub option parameters)
event_log asked side line reading (told_passed byte) = negotiated_log asked side (sender_of asked.source side) reading (told_passed byte)
