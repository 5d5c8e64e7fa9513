-- What a host does over a line at each event: what it sends, and how its run then stands.
use Rattle.std.specs.Prelude.{ℕ, Bool, ◌-◌, ◌==◌, nat_le, nat_lt, ◌&&◌, List, [], ◌∷◌, ◌++◌, map, length, Option, Some, None, Result, Ok, Err, if◌then◌else◌}
use Rattle.ds_codec.specs.Geometry.{cells_of}
use Rattle.ds_inbound.specs.Answer.{Answer, written_characters}
use Rattle.ds_inbound.specs.Reading.{read_of}
use Rattle.ds_inbound.specs.declared.refused.Refused.{Refused}
use Rattle.scr_layout.specs.Layout.{Declaration}
use Rattle.scr_check.specs.Binding.{Pair, bound_of}
use Rattle.scr_check.specs.declared.binding.BindFault.{BindFault}
use Rattle.tn_wire.specs.Header.{Headed, header_of}
use Rattle.tn_wire.specs.Stream.{Told, told_record}
use Rattle.tn_wire.specs.declared.header.DataType.{DataType}
use Rattle.tn_wire.specs.declared.header.DataType.TheVariants.{Data3270, Response}
use Rattle.tn_wire.specs.declared.header.Header.{Header}
use Rattle.tn_wire.specs.declared.header.HeaderFault.{HeaderFault}
use Rattle.tn_cores.specs.declared.host.HostCore.{HostCore}
use Rattle.tn_cores.specs.declared.session.Agreed.{Agreed}
use Rattle.tn_cores.specs.declared.session.SessionFault.{SessionFault}
use Rattle.tn_cores.specs.declared.session.SessionFault.TheVariants.{BadResponse, TerminalRefused}
use Rattle.tn_cores.specs.declared.session.Told.{Told as Means}
use Rattle.tn_cores.specs.declared.session.Told.TheVariants.{Nothing, Ready, Record}
use Rattle.tn_cores.specs.Host.{new_host, host_agreed}
use Rattle.tn_cores.specs.Replies.{bytes_of}
use Rattle.tn_cores.specs.Steps.{Stepped, host_step}
use Rattle.tn_session.specs.declared.fault.RunFault.TheVariants as faults
use Rattle.tn_session.specs.Runs.{Log, going, finished, failed}
use Rattle.tn_session.specs.Sent.{next_sequence, sent_data}

-- what came of a session: what was agreed on, the attention identifier, and for each field that was sent, in the
-- answer's order, the index of its entry and the bytes of its characters
pub record Outcome : Type 0 where
  pub agreed : Agreed
  pub aid : ℕ
  pub fields : List (ℕ × List ℕ)

-- A host's run: the layout and the records, the session, how many records no RESPONSE came for, and the sequence number of
-- the first of them; at the end what came of it.
pub record HostRunning : Type 0 where
  pub layout : Declaration
  pub records : List (List ℕ)
  pub core : HostCore
  pub unanswered : ℕ
  pub sequence : ℕ
  pub outcome : Option Outcome

abbrev pub host_start : Declaration → List (List ℕ) → Bool → Bool → HostRunning
host_start layout records enhanced responses = record {
  layout = layout;
  records = records;
  core = new_host layout.geometry enhanced responses;
  unanswered = length records;
  sequence = 0;
  outcome = None;
}

-- ---- records

-- each as 3270 data; with RESPONSES a response is always wanted, and they are numbered
abbrev pub wanted : Agreed → ℕ
wanted agreed = if agreed.responses then 2 else 0

abbrev pub records_due : Agreed → ℕ → List (List ℕ) → List ℕ
records_due agreed sequence [] = []
records_due agreed sequence (bytes ∷ records) =
    sent_data agreed (wanted agreed) sequence bytes ++ records_due agreed (next_sequence sequence) records

-- they are sent once the session is ready
abbrev pub ready_due : List (List ℕ) → Means → List ℕ
ready_due records (Ready agreed) = records_due agreed 0 records
ready_due records Nothing = []
ready_due records Record = []

-- ---- responses (RFC 2355, section 10.4)

abbrev pub after_response : HostRunning → HostRunning
after_response running = record running { unanswered = running.unanswered - 1; sequence = next_sequence running.sequence }

-- Positive: flag 0 and the byte 00. Negative: flag 1, and one of the four reasons.
abbrev pub responded : HostRunning → ℕ → List ℕ → Log HostRunning
responded running flag (code ∷ []) =
    if (flag == 0) && (code == 0) then going [] (after_response running)
    else (if (flag == 1) && nat_le code 3 then failed (faults.Session (TerminalRefused code)) running else failed (faults.Session BadResponse) running)
responded running flag _ = failed (faults.Session BadResponse) running

-- it answers the first record that none came for
abbrev pub is_awaited : Agreed → HostRunning → ℕ → Bool
is_awaited agreed running sequence = agreed.responses && (nat_lt 0 running.unanswered && (sequence == running.sequence))

abbrev pub taken_response : Agreed → HostRunning → Header → List ℕ → Log HostRunning
taken_response agreed running header bytes =
    if is_awaited agreed running header.seq then responded running header.response bytes else failed (faults.Session BadResponse) running

-- ---- the terminal's answer

abbrev pub outcome_of : Agreed → ℕ → List Pair → Outcome
outcome_of agreed aid pairs = record {
  agreed = agreed;
  aid = aid;
  fields = map (λ pair. (pair.entry, written_characters pair.characters)) pairs;
}

abbrev pub bound_answer : HostRunning → Agreed → ℕ → Result (List Pair) BindFault → Log HostRunning
bound_answer running agreed aid (Ok pairs) = finished [] (record running { outcome = Some (outcome_of agreed aid pairs) })
bound_answer running agreed aid (Err why) = failed (faults.Bind why) running

abbrev pub read_answer : HostRunning → Agreed → Result Answer Refused → Log HostRunning
read_answer running agreed (Ok answer) = bound_answer running agreed answer.aid (bound_of running.layout.entries answer)
read_answer running agreed (Err why) = failed (faults.Inbound why) running

-- it is read as that of the layout's screen, and its fields are bound; then the run is over
abbrev pub taken_answer : Agreed → HostRunning → List ℕ → Log HostRunning
taken_answer agreed running bytes =
    read_answer running agreed (read_of running.layout.geometry.mode (cells_of running.layout.size) bytes)

-- ---- events

-- records of other types are ignored
abbrev pub taken_typed : Agreed → HostRunning → Header → List ℕ → DataType → Log HostRunning
taken_typed agreed running header bytes Data3270 = taken_answer agreed running bytes
taken_typed agreed running header bytes Response = taken_response agreed running header bytes
taken_typed agreed running header bytes _ = going [] running

abbrev pub taken_headed : Agreed → HostRunning → Result Headed HeaderFault → Log HostRunning
taken_headed agreed running (Ok headed) = taken_typed agreed running headed.header headed.rest headed.header.data_type
taken_headed agreed running (Err why) = failed (faults.Header why) running

-- any record of a classic session is an answer
abbrev pub taken_record : HostRunning → Option Agreed → List ℕ → Log HostRunning
taken_record running None bytes = going [] running
taken_record running (Some agreed) bytes =
    if agreed.enhanced then taken_headed agreed running (header_of bytes) else taken_answer agreed running bytes

-- what the session's core makes of an event; a record is the terminal's
abbrev pub host_stepped : HostRunning → Told → Stepped HostCore → Log HostRunning
host_stepped running (told_record bytes) step = taken_record (record running { core = step.core }) (host_agreed step.core) bytes
host_stepped running event step = going (bytes_of step.reply ++ ready_due running.records step.told) (record running { core = step.core })

abbrev pub host_by_core : HostRunning → Told → Result (Stepped HostCore) SessionFault → Log HostRunning
host_by_core running event (Ok step) = host_stepped running event step
host_by_core running event (Err why) = failed (faults.Session why) running

-- one event
abbrev pub host_act : HostRunning → Told → Log HostRunning
host_act running event = host_by_core running event (host_step running.core event)
