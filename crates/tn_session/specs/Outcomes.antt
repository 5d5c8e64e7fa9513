-- What a host gets from a checked screen: the operator's key, and exactly the fields that were touched.
use Rattle.std.specs.Prelude.{ℕ, ◌≡◌, Bool, true, false, List, [], ◌∷◌, ◌++◌, Some, Ok}
use Rattle.ds_codec.specs.declared.cell.Cell.{Cell}
use Rattle.ds_codec.specs.Aid.{is_long_aid}
use Rattle.ds_screen.specs.declared.lock.Lock.TheVariants.{Free}
use Rattle.ds_screen.specs.Picture.{Picture}
use Rattle.ds_keys.specs.declared.key.Key.{Key}
use Rattle.ds_keys.specs.declared.key.Key.TheVariants.{Attention}
use Rattle.ds_keys.specs.KeyRuns as keyed
use Rattle.ds_inbound.specs.Answer.{field_sent, written_characters, bytes_sent}
use Rattle.scr_layout.specs.Entry.{Declared}
use Rattle.scr_layout.specs.Layout.{Declaration, IsLayout}
use Rattle.scr_check.specs.Findings.{entry_at, Conforms}
use Rattle.scr_check.specs.Promise.{is_among, AreTouched, IsDeclaredField}
use Rattle.scr_check.specs.Leads.{RecordsLead, KeysLead}
use Rattle.tn_wire.specs.declared.header.DataType.TheVariants.{Data3270}
use Rattle.tn_wire.specs.declared.header.Header.{Header}
use Rattle.tn_wire.specs.Header.{header_of}
use Rattle.tn_wire.specs.Stream.{Told, told_record, Tells}
use Rattle.tn_cores.specs.declared.session.Agreed.{Agreed}
use Rattle.tn_cores.specs.Host.{host_agreed}
use Rattle.tn_session.specs.declared.outcome.HostOutcome.{HostOutcome}
use Rattle.tn_session.specs.HostLog.{Outcome, HostRunning, host_start, taken_answer, host_act}
use Rattle.tn_session.specs.HostRan.{HostRan}
use Rattle.tn_session.specs.HostView.{outcome_view}
use Rattle.tn_session.specs.Runs.{finishes, going, finished, log_of, EndsBy}
use Rattle.tn_session.specs.Wire.{WireState}

-- ---- the operator

-- The records led from a picture of the layout's geometry, whatever it held, to one that was typed on: by keys of which
-- none sends, which led to this picture, on a free keyboard.
pub record IsTypedOn (layout : Declaration) (records : List (List ℕ)) (opened : Picture) (keys : List Key) (v : Picture) : Type 0 where
  pub before : Picture
  pub geometry : before.geometry ≡ layout.geometry
  pub shown : RecordsLead before records opened
  pub typed : KeysLead opened keys v
  pub free : v.lock ≡ Free

-- what the terminal then sends at the key with this attention identifier
abbrev pub sent_by : Picture → ℕ → List ℕ
sent_by v aid = bytes_sent (keyed.after_key v (Attention aid)) false

-- ---- the outcome

-- one field for each of these attributes, in their order: the index of the entry at its place, and the bytes of the
-- characters that it holds, without nulls
abbrev pub AreOfEntries : List Declared → List Cell → List ℕ → List (ℕ × List ℕ) → Type 0
AreOfEntries entries cells [] [] = Unit {0}
AreOfEntries entries cells [] (field ∷ fields) = ⊥
AreOfEntries entries cells (q ∷ places) [] = ⊥
AreOfEntries entries cells (q ∷ places) (field ∷ fields) =
    (entry_at entries (field_sent cells q).place ≡ Some field.0)
    × (field.1 ≡ written_characters (field_sent cells q).characters)
    × AreOfEntries entries cells places fields

-- What came of the session is this key and a field for each attribute that the keys touched, in rising position, and for
-- no other: its entry, which declares no fewer characters, and its characters.
pub record IsOfTouched (layout : Declaration) (opened : Picture) (keys : List Key) (v : Picture) (agreed : Agreed) (aid : ℕ) (outcome : Outcome) : Type 0 where
  pub session : outcome.agreed ≡ agreed
  pub key : outcome.aid ≡ aid
  pub places : List ℕ
  pub touched : AreTouched opened keys places
  pub declared : (q : ℕ) → is_among places q ≡ true → IsDeclaredField layout.entries opened.cells v.cells q
  pub fields : AreOfEntries layout.entries v.cells places outcome.fields

-- ---- the record that brings the answer

-- a record holds these bytes: behind a header of 3270 data in an enhanced session, alone in a classic one
abbrev pub HoldsIn : Bool → List ℕ → List ℕ → Type 0
HoldsIn false bytes answer = bytes ≡ answer
HoldsIn true bytes answer =
    (header : Header) × (header.data_type ≡ Data3270) × (header_of bytes ≡ Ok (record { header = header; rest = answer }))

-- A front of the stream tells events with which a host's run goes on and is ready, and then a record that holds these bytes.
pub record BringsAnswer (start : HostRunning) (stream : List ℕ) (agreed : Agreed) (answer : List ℕ) : Type 0 where
  pub used : List ℕ
  pub more : List ℕ
  pub left : List ℕ
  pub events : List Told
  pub bytes : List ℕ
  pub due : List ℕ
  pub running : HostRunning
  pub front : stream ≡ used ++ more
  pub tells : Tells used (events ++ told_record bytes ∷ []) left
  pub log : log_of host_act start events ≡ going due running
  pub ready : host_agreed running.core ≡ Some agreed
  pub holds : HoldsIn agreed.enhanced bytes answer

-- ---- the laws

-- for every screen that a yes speaks of, every list of keys of which none sends, and then Enter or a PF key
abbrev pub ForChecked : (Declaration → List (List ℕ) → Picture → List Key → Picture → ℕ → Type 0) → Type 0
ForChecked Claim =
    (layout : Declaration) (records : List (List ℕ)) → IsLayout layout → Conforms layout records
    → (opened : Picture) (keys : List Key) (v : Picture) → IsTypedOn layout records opened keys v
    → (aid : ℕ) → is_long_aid aid ≡ true → Claim layout records opened keys v aid

-- a host of the layout that takes what the terminal sends is done, with the touched fields
abbrev pub Finishes : Declaration → List (List ℕ) → Picture → List Key → Picture → ℕ → Type 0
Finishes layout records opened keys v aid =
    (agreed : Agreed) (running : HostRunning) → running.layout ≡ layout
    → (outcome : Outcome) × IsOfTouched layout opened keys v agreed aid outcome
    × (taken_answer agreed running (sent_by v aid) ≡ finished [] (record running { outcome = Some outcome }))

-- a stream that brings it to a host that sent the records finishes the host's log so
abbrev pub EndsLog : Declaration → List (List ℕ) → Picture → List Key → Picture → ℕ → Type 0
EndsLog layout records opened keys v aid =
    (enhanced responses : Bool) (stream : List ℕ) (agreed : Agreed)
    → BringsAnswer (host_start layout records enhanced responses) stream agreed (sent_by v aid)
    → (due : List ℕ) × (end : HostRunning) × (outcome : Outcome)
    × EndsBy host_act [] (host_start layout records enhanced responses) stream due (finishes end)
    × (end.outcome ≡ Some outcome) × IsOfTouched layout opened keys v agreed aid outcome

-- and where a run read that stream and has an outcome, it is that
abbrev pub IsOutcome : Declaration → List (List ℕ) → Picture → List Key → Picture → ℕ → Type 0
IsOutcome layout records opened keys v aid =
    (enhanced responses : Bool) (old new : WireState) (outcome : HostOutcome) (stream : List ℕ) (agreed : Agreed)
    → HostRan layout records enhanced responses old (Ok outcome) new → new.received ≡ old.received ++ stream
    → BringsAnswer (host_start layout records enhanced responses) stream agreed (sent_by v aid)
    → IsOfTouched layout opened keys v agreed aid (outcome_view outcome)

abbrev pub AnswersFinish : Type 0
AnswersFinish = ForChecked Finishes

abbrev pub AnswersEndLogs : Type 0
AnswersEndLogs = ForChecked EndsLog

abbrev pub OutcomesAreTouched : Type 0
OutcomesAreTouched = ForChecked IsOutcome
