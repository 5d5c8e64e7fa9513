-- What a terminal does over a line at each event: what it sends, and how its run then stands.
use Rattle.std.specs.Prelude.{ℕ, ◌+◌, ◌==◌, nat_lt, Bool, true, false, ◌&&◌, ◌||◌, List, [], ◌∷◌, ◌++◌, length, Option, Some, None, Result, Ok, Err, if◌then◌else◌}
use Rattle.ds_codec.specs.declared.refused.Why as reading
use Rattle.ds_codec.specs.declared.refused.Why.TheVariants as reading_why
use Rattle.ds_screen.specs.declared.lock.Lock.{Lock}
use Rattle.ds_screen.specs.declared.lock.Lock.TheVariants.{Free, Waiting, Error}
use Rattle.ds_screen.specs.Records.{new_picture}
use Rattle.ds_strokes.specs.StrokeStep.{Operating, operating}
use Rattle.ds_structured.specs.Fields.{Field, query, draw, fields_in}
use Rattle.ds_structured.specs.Replies.{query_reply}
use Rattle.ds_terminal.specs.declared.refused.Refused.{Refused}
use Rattle.ds_terminal.specs.declared.refused.Refused.TheVariants.{Read, Apply}
use Rattle.ds_terminal.specs.Terminal.{Reply, shown, answered, nothing, refused, KeyReply, done, inhibited, ignored, sent, Turn, received}
use Rattle.tn_wire.specs.declared.header.Header.{Header}
use Rattle.tn_wire.specs.declared.header.HeaderFault.{HeaderFault}
use Rattle.tn_wire.specs.declared.header.DataType.{DataType}
use Rattle.tn_wire.specs.declared.header.DataType.TheVariants.{Data3270, Response, NvtData}
use Rattle.tn_wire.specs.Header.{Headed, header_bytes, header_of}
use Rattle.tn_wire.specs.Stream.{Told, told_record}
use Rattle.tn_cores.specs.declared.device.Device.{Device}
use Rattle.tn_cores.specs.declared.session.Agreed.{Agreed}
use Rattle.tn_cores.specs.declared.session.SessionFault.{SessionFault}
use Rattle.tn_cores.specs.declared.session.Told.{Told as Meant}
use Rattle.tn_cores.specs.declared.session.Told.TheVariants.{Nothing as means_nothing, Ready as means_ready, Record as means_record}
use Rattle.ds_codec.specs.Same.{same_size}
use Rattle.tn_cores.specs.Devices.{sizes_of, alternate_of}
use Rattle.tn_cores.specs.Replies.{bytes_of}
use Rattle.tn_cores.specs.Steps.{Stepped}
use Rattle.tn_cores.specs.Terminal.{new_terminal}
use Rattle.tn_cores.specs.Tolerant.{new_tolerant}
use Rattle.tn_session.specs.declared.end_core.EndCore.{EndCore}
use Rattle.tn_session.specs.declared.end_core.EndCore.TheVariants.{Strict, Tolerant}
use Rattle.tn_session.specs.EndCores.{core_step, core_agreed, is_tolerant}
use Rattle.tn_session.specs.declared.fault.RunFault.TheVariants as faults
use Rattle.tn_session.specs.declared.terminal_state.TerminalState.{TerminalState}
use Rattle.tn_session.specs.LuNames.{name_after}
use Rattle.tn_session.specs.Kept.{Keeping, nothing_kept, keep_record, keep_key}
use Rattle.tn_session.specs.Noted.{nothing_noted, note_bytes}
use Rattle.tn_session.specs.Runs.{Log, going, finished, failed}
use Rattle.tn_session.specs.Sent.{framed, next_sequence, sent_data, data_header}
use Rattle.tn_session.specs.Strikes.{Strike, strike_aid, Struck, struck_by}

-- a terminal's run: what it keeps, and the keys that are left
pub record TerminalRunning : Type 0 where
  pub state : TerminalState
  pub keys : List Strike

abbrev pub begun_state : EndCore → Device → TerminalState
begun_state core device = record {
  core = core;
  terminal = new_picture (sizes_of device.model);
  inserts = false;
  sequence = 0;
  was_free = false;
  answers = 0;
  taken = 0;
  passed = 0;
  refused = 0;
  ignored = 0;
  drops = false;
  lu_name = [];
  noted = nothing_noted;
  kept = None;
}

abbrev pub new_terminal_state : Device → Bool → Bool → TerminalState
new_terminal_state device enhanced responses = begun_state (Strict (new_terminal device enhanced responses)) device

-- a tolerant one, which keeps the records of its screen
abbrev pub tolerant_terminal : Device → Bool → Bool → TerminalState
tolerant_terminal device enhanced responses =
    record (begun_state (Tolerant (new_tolerant device enhanced responses)) device) { kept = Some nothing_kept }

-- one that keeps the records of its screen
abbrev pub keeping_terminal : Device → Bool → Bool → TerminalState
keeping_terminal device enhanced responses = record (new_terminal_state device enhanced responses) { kept = Some nothing_kept }

-- counts go up to 18,446,744,073,709,551,615 and stay there, which no run over a line comes to
abbrev pub one_more : ℕ → ℕ
one_more count = if nat_lt count 18446744073709551615 then count + 1 else count

abbrev pub terminal_start : Device → Bool → Bool → List Strike → TerminalRunning
terminal_start device enhanced responses keys = record { state = new_terminal_state device enhanced responses; keys = keys }

-- what is sent, and what the terminal then keeps
pub record Doing : Type 0 where
  pub due : List ℕ
  pub state : TerminalState

abbrev pub doing : List ℕ → TerminalState → Doing
doing due state = record { due = due; state = state }

-- the same with the keys that are left
pub record Typing : Type 0 where
  pub due : List ℕ
  pub running : TerminalRunning

-- ---- responses (RFC 2355, section 10.4)

-- one byte of data
abbrev pub response_bytes : Header → ℕ → ℕ → List ℕ
response_bytes header flag code =
    framed (header_bytes (record { data_type = Response; request = 0; response = flag; seq = header.seq }) ++ code ∷ [])

-- where one is wanted always
abbrev pub positive : Agreed → Header → List ℕ
positive agreed header = if agreed.responses && (header.response == 2) then response_bytes header 0 0 else []

-- COMMAND-REJECT where the command is refused, else OPERATION-CHECK
abbrev pub read_code : reading.Why → ℕ
read_code reading_why.Empty = 0
read_code reading_why.UnknownCommand = 0
read_code reading_why.StructuredField = 0
read_code _ = 2

abbrev pub refusal_code : Refused → ℕ
refusal_code (Read why) = read_code why.why
refusal_code (Apply why) = 2

-- where one is wanted to errors, or always
abbrev pub negative : Agreed → Header → Refused → List ℕ
negative agreed header why =
    if agreed.responses && ((header.response == 1) || (header.response == 2)) then response_bytes header 1 (refusal_code why) else []

-- ---- records of 3270 data

abbrev pub is_free : Lock → Bool
is_free Free = true
is_free Waiting = false
is_free Error = false

abbrev pub is_waiting : Lock → Bool
is_waiting Free = false
is_waiting Waiting = true
is_waiting Error = false

-- an answer goes out
abbrev pub answer_due : Agreed → TerminalState → List ℕ → List ℕ
answer_due agreed state bytes = sent_data agreed 0 state.sequence bytes

abbrev pub after_answer : TerminalState → TerminalState
after_answer state = record state { sequence = next_sequence state.sequence; answers = one_more state.answers }

abbrev pub one_taken : TerminalState → TerminalState
one_taken state = record state { taken = one_more state.taken }

abbrev pub one_refused : TerminalState → TerminalState
one_refused state = record state { refused = one_more state.refused }

-- what a record makes of the screen, and of the records that are kept
abbrev pub after_record : TerminalState → List ℕ → Turn → TerminalState
after_record state bytes turn = record state {
  terminal = turn.after;
  was_free = state.was_free || is_free turn.after.lock;
  kept = keep_record state.kept bytes turn.reply;
}

abbrev pub replied : Agreed → Header → TerminalState → Reply → Doing
replied agreed header state (shown effect) = doing (positive agreed header) (one_taken state)
replied agreed header state (answered bytes) =
    doing (positive agreed header ++ answer_due agreed state bytes) (after_answer (one_taken state))
replied agreed header state nothing = doing (positive agreed header) (one_taken state)
replied agreed header state (refused why) = doing (negative agreed header why) (one_refused state)

-- what a turn of the terminal makes of the run
abbrev pub turned : Agreed → Header → TerminalState → List ℕ → Turn → Doing
turned agreed header state bytes turn = replied agreed header (after_record state bytes turn) turn.reply

abbrev pub received_data : Agreed → Header → TerminalState → List ℕ → Doing
received_data agreed header state bytes = turned agreed header state bytes (received state.terminal bytes)

-- ---- structured fields, which a tolerant terminal obeys

-- what fields lead to: the bytes of their answers, what the terminal then keeps, and why one is refused
pub record Fielding : Type 0 where
  pub due : List ℕ
  pub state : TerminalState
  pub refused : Option Refused

-- why a record is refused, where it is
abbrev pub refusal_in : Reply → Option Refused
refusal_in (refused why) = Some why
refusal_in (shown effect) = None
refusal_in (answered bytes) = None
refusal_in nothing = None

-- a query's answer has a number, and is counted among none
abbrev pub after_query : TerminalState → TerminalState
after_query state = record state { sequence = next_sequence state.sequence }

-- a record that a field holds is taken as any other
abbrev pub drawn : TerminalState → List ℕ → Turn → Fielding
drawn state bytes turn = record { due = []; state = after_record state bytes turn; refused = refusal_in turn.reply }

abbrev pub field_obeyed : Agreed → TerminalState → Field → Fielding
field_obeyed agreed state (query wanted) =
    record { due = answer_due agreed state (query_reply state.terminal.geometry wanted); state = after_query state; refused = None }
field_obeyed agreed state (draw bytes) = drawn state bytes (received state.terminal bytes)

-- these bytes first
abbrev pub answering : List ℕ → Fielding → Fielding
answering due later = record { due = due ++ later.due; state = later.state; refused = later.refused }

-- the first that is refused ends them
abbrev pub then_obeyed : Fielding → Option Refused → (TerminalState → Fielding) → Fielding
then_obeyed did None others = answering did.due (others did.state)
then_obeyed did (Some why) others = did

abbrev pub fields_obeyed : Agreed → TerminalState → List Field → Fielding
fields_obeyed agreed state [] = record { due = []; state = state; refused = None }
fields_obeyed agreed state (field ∷ fields) =
    then_obeyed (field_obeyed agreed state field) (field_obeyed agreed state field).refused (λ next. fields_obeyed agreed next fields)

-- the response to their record comes before their answers
abbrev pub responded : Agreed → Header → Fielding → Option Refused → Doing
responded agreed header did None = doing (positive agreed header ++ did.due) (one_taken did.state)
responded agreed header did (Some why) =
    doing (negative agreed header why ++ did.due) (one_refused did.state)

abbrev pub obeyed : Agreed → Header → TerminalState → List Field → Doing
obeyed agreed header state fields =
    responded agreed header (fields_obeyed agreed state fields) (fields_obeyed agreed state fields).refused

-- ---- keys

-- a key that sends is answered
abbrev pub key_replied : Agreed → TerminalState → KeyReply → Doing
key_replied agreed state (sent bytes) = doing (answer_due agreed state bytes) (after_answer state)
key_replied agreed state done = doing [] state
key_replied agreed state inhibited = doing [] state
key_replied agreed state ignored = doing [] state

-- the operator at this terminal
abbrev pub operator_at : TerminalState → Operating
operator_at state = operating state.terminal state.inserts

-- what a key makes of the screen, of insert mode, and of the records that are kept
abbrev pub after_key : TerminalState → Option ℕ → Struck → TerminalState
after_key state aid struck = record state {
  terminal = struck.turn.after;
  inserts = struck.inserts;
  kept = keep_key state.kept aid struck.turn.reply;
}

abbrev pub key_turned : Agreed → TerminalState → Option ℕ → Struck → Doing
key_turned agreed state aid struck = key_replied agreed (after_key state aid struck) struck.turn.reply

abbrev pub typed_key : Agreed → TerminalState → Strike → Doing
typed_key agreed state key = key_turned agreed state (strike_aid key) (struck_by key (operator_at state))

-- these bytes first
abbrev pub before : List ℕ → Typing → Typing
before due later = record { due = due ++ later.due; running = later.running }

-- keys are pressed one after the other, until the keyboard waits for a record
abbrev pub typing : Agreed → TerminalState → List Strike → Typing
typing agreed state [] = record { due = []; running = record { state = state; keys = [] } }
typing agreed state (key ∷ keys) =
    if is_waiting state.terminal.lock then record { due = []; running = record { state = state; keys = key ∷ keys } }
    else before (typed_key agreed state key).due (typing agreed (typed_key agreed state key).state keys)

-- ---- events

-- keys after a record
abbrev pub then_typed : Agreed → List Strike → Doing → Typing
then_typed agreed keys did = before did.due (typing agreed did.state keys)

-- the run is over once the keyboard has been free and no key is left
abbrev pub standing : Typing → Log TerminalRunning
standing typed =
    if typed.running.state.was_free && (length typed.running.keys == 0) then finished typed.due typed.running else going typed.due typed.running

abbrev pub taken_data : Agreed → Header → TerminalRunning → List ℕ → Log TerminalRunning
taken_data agreed header running bytes = standing (then_typed agreed running.keys (received_data agreed header running.state bytes))

-- records of other types are passed over
abbrev pub passed_over : TerminalRunning → Log TerminalRunning
passed_over running = going [] (record running { state = record running.state { passed = one_more running.state.passed } })

abbrev pub taken_typed : Agreed → Header → TerminalRunning → List ℕ → DataType → Log TerminalRunning
taken_typed agreed header running bytes Data3270 = taken_data agreed header running bytes
taken_typed agreed header running bytes _ = passed_over running

abbrev pub taken_headed : Agreed → TerminalRunning → Result Headed HeaderFault → Log TerminalRunning
taken_headed agreed running (Ok headed) = taken_typed agreed headed.header running headed.rest headed.header.data_type
taken_headed agreed running (Err why) = failed (faults.Header why) running

-- ---- records at a tolerant terminal

-- a run goes on with this state, and these bytes are due
abbrev pub goes_with : List ℕ → TerminalRunning → TerminalState → Log TerminalRunning
goes_with due running state = going due (record running { state = state })

abbrev pub one_passed : TerminalState → TerminalState
one_passed state = record state { passed = one_more state.passed }

-- a record that comes while none passes
abbrev pub one_ignored : TerminalState → TerminalState
one_ignored state = record state { ignored = one_more state.ignored }

-- what was open when records began to pass: it is counted where it has data
abbrev pub dropped : TerminalState → List ℕ → TerminalState
dropped state bytes =
    if length bytes == 0 then record state { drops = false } else record state { drops = false; ignored = one_more state.ignored }

-- structured fields that can be obeyed are, and others are refused as a record of them is
abbrev pub tolerated_fields : Agreed → Header → TerminalRunning → List ℕ → Option (List Field) → Log TerminalRunning
tolerated_fields agreed header running bytes None = taken_data agreed header running bytes
tolerated_fields agreed header running bytes (Some fields) =
    standing (then_typed agreed running.keys (obeyed agreed header running.state fields))

-- a record without data is passed over, and answered where a response is wanted always
abbrev pub tolerated_data : Agreed → Header → TerminalRunning → List ℕ → Log TerminalRunning
tolerated_data agreed header running bytes =
    if length bytes == 0 then goes_with (positive agreed header) running (one_passed running.state)
    else tolerated_fields agreed header running bytes (fields_in bytes)

-- the text of NVT-DATA is kept
abbrev pub noting : TerminalState → List ℕ → TerminalState
noting state bytes = record state { passed = one_more state.passed; noted = note_bytes state.noted bytes }

abbrev pub tolerated_typed : Agreed → Header → TerminalRunning → List ℕ → DataType → Log TerminalRunning
tolerated_typed agreed header running bytes Data3270 = tolerated_data agreed header running bytes
tolerated_typed agreed header running bytes NvtData = goes_with [] running (noting running.state bytes)
tolerated_typed agreed header running bytes _ = goes_with [] running (one_passed running.state)

-- a record without a header, or of an unknown type, is passed over
abbrev pub tolerated_headed : Agreed → TerminalRunning → Result Headed HeaderFault → Log TerminalRunning
tolerated_headed agreed running (Ok headed) = tolerated_typed agreed headed.header running headed.rest headed.header.data_type
tolerated_headed agreed running (Err why) = goes_with [] running (one_passed running.state)

abbrev pub tolerated : Agreed → TerminalRunning → List ℕ → Log TerminalRunning
tolerated agreed running bytes =
    if running.state.drops then goes_with [] running (dropped running.state bytes)
    else (if agreed.enhanced then tolerated_headed agreed running (header_of bytes)
    else tolerated_data agreed (data_header 0 0) running bytes)

-- ---- records

-- a record of a classic session has no header, and wants no response
abbrev pub strictly_taken : Agreed → TerminalRunning → List ℕ → Log TerminalRunning
strictly_taken agreed running bytes =
    if agreed.enhanced then taken_headed agreed running (header_of bytes) else taken_data agreed (data_header 0 0) running bytes

abbrev pub taken_record : TerminalRunning → Option Agreed → List ℕ → Log TerminalRunning
taken_record running None bytes = goes_with [] running (one_ignored running.state)
taken_record running (Some agreed) bytes =
    if is_tolerant running.state.core then tolerated agreed running bytes else strictly_taken agreed running bytes

abbrev pub with_core : TerminalRunning → EndCore → TerminalRunning
with_core running core = record running { state = record running.state { core = core } }

-- ---- other events

abbrev pub kept_anew : Option Keeping → Option Keeping
kept_anew None = None
kept_anew (Some keeping) = Some nothing_kept

-- the screen is made anew
abbrev pub renewed : Device → TerminalState → TerminalState
renewed device state = record state { terminal = new_picture (sizes_of device.model); kept = kept_anew state.kept }

-- where it isn't that of the device's model
abbrev pub fitted : Device → TerminalState → TerminalState
fitted device state = if same_size state.terminal.geometry.alternate (alternate_of device.model) then state else renewed device state

-- once records begin to pass, what is open of one is to be dropped
abbrev pub dropping : Meant → TerminalState → TerminalState
dropping (means_ready agreed) state = record state { drops = true }
dropping means_nothing state = state
dropping means_record state = state

-- what an event that is no record leaves at a tolerant terminal, whose device may be another
abbrev pub heeding : EndCore → Meant → TerminalState → TerminalState
heeding (Strict core) told state = state
heeding (Tolerant core) told state = fitted core.core.device (dropping told state)

-- the core is this after an event, and the name that it granted is noted
abbrev pub cored : TerminalState → Told → EndCore → TerminalState
cored state event core = record state { core = core; lu_name = name_after state.core event state.lu_name }

abbrev pub heeded : TerminalRunning → Told → Stepped EndCore → TerminalRunning
heeded running event step = record running { state = heeding step.core step.told (cored running.state event step.core) }

-- what the session's core makes of an event; a record is the terminal's
abbrev pub stepped : TerminalRunning → Told → Stepped EndCore → Log TerminalRunning
stepped running (told_record bytes) step = taken_record (with_core running step.core) (core_agreed step.core) bytes
stepped running event step = going (bytes_of step.reply) (heeded running event step)

abbrev pub by_core : TerminalRunning → Told → Result (Stepped EndCore) SessionFault → Log TerminalRunning
by_core running event (Ok step) = stepped running event step
by_core running event (Err why) = failed (faults.Session why) running

-- one event
abbrev pub terminal_act : TerminalRunning → Told → Log TerminalRunning
terminal_act running event = by_core running event (core_step running.state.core event)
