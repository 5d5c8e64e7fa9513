-- What a host of several screens does at each event: what it sends, and how its session then stands.
use Rattle.std.specs.Prelude.{ℕ, Bool, true, not, ◌==◌, nat_le, ◌&&◌, List, [], ◌∷◌, ◌++◌, Option, Some, None, Result, Ok, Err, slice_get, if◌then◌else◌}
use Rattle.ds_codec.specs.Geometry.{Sizes, cells_of}
use Rattle.ds_inbound.specs.Answer.{Answer}
use Rattle.ds_inbound.specs.Reading.{read_of}
use Rattle.ds_inbound.specs.declared.refused.Refused.{Refused}
use Rattle.scr_check.specs.Binding.{Pair, bound_of}
use Rattle.scr_check.specs.declared.binding.BindFault.{BindFault}
use Rattle.tn_wire.specs.Header.{Headed, header_of}
use Rattle.tn_wire.specs.Stream.{Told, told_record}
use Rattle.tn_wire.specs.declared.header.DataType.{DataType}
use Rattle.tn_wire.specs.declared.header.DataType.TheVariants.{Data3270, Response}
use Rattle.tn_wire.specs.declared.header.Header.{Header}
use Rattle.tn_wire.specs.declared.header.HeaderFault.{HeaderFault}
use Rattle.tn_cores.specs.declared.host.HostCore.{HostCore}
use Rattle.tn_cores.specs.declared.session.Agreed.{Agreed}
use Rattle.tn_cores.specs.declared.session.SessionFault.{SessionFault}
use Rattle.tn_cores.specs.declared.session.SessionFault.TheVariants.{BadResponse, TerminalRefused}
use Rattle.tn_cores.specs.declared.session.Told.{Told as Means}
use Rattle.tn_cores.specs.declared.session.Told.TheVariants.{Nothing, Ready, Record}
use Rattle.tn_cores.specs.Host.{new_host, host_agreed}
use Rattle.tn_cores.specs.Replies.{bytes_of}
use Rattle.tn_cores.specs.Steps.{Stepped, host_step}
use Rattle.tn_session.specs.declared.fault.RunFault.{RunFault}
use Rattle.tn_session.specs.declared.fault.RunFault.TheVariants as faults
use Rattle.tn_session.specs.HostLog.{records_due}
use Rattle.tn_session.specs.Runs.{Log, going, finished}
use Rattle.tn_session.specs.Sent.{next_sequence}
use Rattle.tn_dialogue.specs.declared.screen.Next.{Next}
use Rattle.tn_dialogue.specs.declared.screen.Next.TheVariants.{Shows, Ends}
use Rattle.tn_dialogue.specs.declared.screen.Reading.{Reading}
use Rattle.tn_dialogue.specs.declared.screen.Reading.TheVariants.{Fields, Any}
use Rattle.tn_dialogue.specs.declared.screen.Screen.{Screen}
use Rattle.tn_dialogue.specs.Screens.{next_of, records_of, sequence_after}

-- The screens; the session's core; which screen is shown; the sequence number of the first record that no RESPONSE came for, and
-- that of the next record; what was answered so far, each at its screen; and the fault that ended it.
pub record Running : Type 0 where
  pub screens : List Screen
  pub core : HostCore
  pub shown : ℕ
  pub awaited : ℕ
  pub sequence : ℕ
  pub answers : List (ℕ × List ℕ)
  pub fault : Option RunFault

abbrev pub dialogue_start : List Screen → ℕ → Sizes → Running
dialogue_start screens first sizes = record {
  screens = screens;
  core = new_host sizes true true;
  shown = first;
  awaited = 0;
  sequence = 0;
  answers = [];
  fault = None;
}

-- a fault ends it, and what was answered before stays
abbrev pub stopped : Running → RunFault → Log Running
stopped running why = finished [] (record running { fault = Some why })

-- ---- screens

abbrev pub records_at : Running → ℕ → List (List ℕ)
records_at running screen = records_of (slice_get running.screens screen)

-- its records go out, numbered on
abbrev pub screen_due : Agreed → Running → ℕ → List ℕ
screen_due agreed running screen = records_due agreed running.sequence (records_at running screen)

abbrev pub showing : Running → ℕ → Running
showing running screen = record running { shown = screen; sequence = sequence_after running.sequence (records_at running screen) }

-- ---- responses (RFC 2355, section 10.4)

abbrev pub after_response : Running → Running
after_response running = record running { awaited = next_sequence running.awaited }

-- Positive: flag 0 and the byte 00. Negative: flag 1, and one of the four reasons.
abbrev pub responded : Running → ℕ → List ℕ → Log Running
responded running flag (code ∷ []) =
    if (flag == 0) && (code == 0) then going [] (after_response running)
    else (if (flag == 1) && nat_le code 3 then stopped running (faults.Session (TerminalRefused code)) else stopped running (faults.Session BadResponse))
responded running flag _ = stopped running (faults.Session BadResponse)

-- it answers the first record that none came for
abbrev pub is_awaited : Agreed → Running → ℕ → Bool
is_awaited agreed running sequence = agreed.responses && (not (running.awaited == running.sequence) && (sequence == running.awaited))

abbrev pub taken_response : Agreed → Running → Header → List ℕ → Log Running
taken_response agreed running header bytes =
    if is_awaited agreed running header.seq then responded running header.response bytes else stopped running (faults.Session BadResponse)

-- ---- answers

abbrev pub with_answer : Running → List ℕ → Running
with_answer running bytes = record running { answers = running.answers ++ (running.shown, bytes) ∷ [] }

-- the key leads to the next screen, whose records go out, or to the end
abbrev pub led : Agreed → Running → Next → Log Running
led agreed running (Shows screen) = going (screen_due agreed running screen) (showing running screen)
led agreed running Ends = finished [] running

abbrev pub fault_of : Result (List Pair) BindFault → Option BindFault
fault_of (Ok pairs) = None
fault_of (Err why) = Some why

-- why its fields aren't the layout's, where that is asked
abbrev pub fields_fault : Reading → Screen → Answer → Option BindFault
fields_fault Fields screen answer = fault_of (bound_of screen.layout.entries answer)
fields_fault Any screen answer = None

abbrev pub bound_answer : Agreed → Running → List ℕ → Next → Option BindFault → Log Running
bound_answer agreed running bytes next None = led agreed (with_answer running bytes) next
bound_answer agreed running bytes next (Some why) = stopped running (faults.Bind why)

abbrev pub read_answer : Agreed → Running → List ℕ → Screen → Result Answer Refused → Log Running
read_answer agreed running bytes screen (Ok answer) =
    bound_answer agreed running bytes (next_of screen answer.aid) (fields_fault screen.reading screen answer)
read_answer agreed running bytes screen (Err why) = stopped running (faults.Inbound why)

-- an answer is one at the screen that is shown
abbrev pub answer_at : Agreed → Running → List ℕ → Option Screen → Log Running
answer_at agreed running bytes None = finished [] running
answer_at agreed running bytes (Some screen) =
    read_answer agreed running bytes screen (read_of screen.layout.geometry.mode (cells_of screen.layout.size) bytes)

abbrev pub taken_answer : Agreed → Running → List ℕ → Log Running
taken_answer agreed running bytes = answer_at agreed running bytes (slice_get running.screens running.shown)

-- ---- events

-- records of other types are ignored
abbrev pub taken_typed : Agreed → Running → Header → List ℕ → DataType → Log Running
taken_typed agreed running header bytes Data3270 = taken_answer agreed running bytes
taken_typed agreed running header bytes Response = taken_response agreed running header bytes
taken_typed agreed running header bytes _ = going [] running

abbrev pub taken_headed : Agreed → Running → Result Headed HeaderFault → Log Running
taken_headed agreed running (Ok headed) = taken_typed agreed running headed.header headed.rest headed.header.data_type
taken_headed agreed running (Err why) = stopped running (faults.Header why)

-- any record of a classic session is an answer
abbrev pub taken_record : Running → Option Agreed → List ℕ → Log Running
taken_record running None bytes = going [] running
taken_record running (Some agreed) bytes =
    if agreed.enhanced then taken_headed agreed running (header_of bytes) else taken_answer agreed running bytes

-- once the session is ready the first screen is shown
abbrev pub meant : Running → List ℕ → Means → Log Running
meant running reply (Ready agreed) = going (reply ++ screen_due agreed running running.shown) (showing running running.shown)
meant running reply Nothing = going reply running
meant running reply Record = going reply running

-- what the session's core makes of an event; a record is the terminal's
abbrev pub stepped : Running → Told → Stepped HostCore → Log Running
stepped running (told_record bytes) step = taken_record (record running { core = step.core }) (host_agreed step.core) bytes
stepped running event step = meant (record running { core = step.core }) (bytes_of step.reply) step.told

abbrev pub by_core : Running → Told → Result (Stepped HostCore) SessionFault → Log Running
by_core running event (Ok step) = stepped running event step
by_core running event (Err why) = stopped running (faults.Session why)

-- one event
abbrev pub dialogue_act : Running → Told → Log Running
dialogue_act running event = by_core running event (host_step running.core event)
