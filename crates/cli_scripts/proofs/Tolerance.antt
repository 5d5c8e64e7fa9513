-- A session of a tolerant terminal stays one.
use Rattle.std.proofs.Common.{◌≡◌, ℕ, nat_eq, ◌&&◌, Bool, true, false, cond, List, [], ◌∷◌, length, None, Some, Ok, Err, refl, sym, subst}
use Rattle.std.specs.Prelude.{Option, Result}
use Rattle.ds_structured.specs.Fields.{Field, fields_in}
use Rattle.tn_wire.specs.declared.header.DataType.{DataType}
use Rattle.tn_wire.specs.declared.header.DataType.TheVariants.{Data3270, ScsData, Response, BindImage, Unbind, NvtData, Request, SscpLuData, PrintEoj}
use Rattle.tn_wire.specs.declared.header.Header.{Header}
use Rattle.tn_wire.specs.declared.header.HeaderFault.{HeaderFault}
use Rattle.tn_wire.specs.Header.{Headed, header_of}
use Rattle.tn_wire.specs.Stream.{Told, told_record, told_verb, told_sub, told_passed}
use Rattle.tn_cores.specs.declared.device.Device.{Device}
use Rattle.tn_cores.specs.declared.session.Agreed.{Agreed}
use Rattle.tn_cores.specs.declared.session.Told.{Told as Meant}
use Rattle.tn_cores.specs.declared.session.Told.TheVariants.{Nothing as means_nothing, Ready as means_ready, Record as means_record}
use Rattle.tn_cores.specs.declared.tolerant.TolerantCore.{TolerantCore}
use Rattle.ds_codec.specs.Same.{same_size}
use Rattle.tn_cores.specs.Devices.{alternate_of}
use Rattle.tn_cores.specs.Tolerant.{tolerant_step}
use Rattle.tn_session.specs.declared.end_core.EndCore.{EndCore}
use Rattle.tn_session.specs.declared.end_core.EndCore.TheVariants.{Strict, Tolerant}
use Rattle.tn_session.specs.declared.pressed.Pressed.{Pressed as Answer}
use Rattle.tn_session.specs.declared.fault.RunFault.{RunFault}
use Rattle.tn_session.specs.declared.terminal_state.TerminalState.{TerminalState}
use Rattle.tn_session.specs.EndCores.{core_step, core_agreed, is_tolerant}
use Rattle.tn_session.specs.OneLog.{Standing, waits, is_over, has_failed, is_at_fault}
use Rattle.tn_session.specs.Pieces.{LogOn}
use Rattle.tn_session.specs.Runs.{Course, goes, finishes, fails, Log, going, finished, log_on, log_of}
use Rattle.tn_session.specs.Strikes.{Strike}
use Rattle.tn_session.specs.Talk.{Talk, stands, starved}
use Rattle.tn_session.specs.TerminalLog.{TerminalRunning, Doing, Typing, then_typed, standing, received_data, taken_data, taken_record, positive, tolerated_data, tolerated_fields, obeyed, tolerated_typed, tolerated_headed, tolerated, one_passed, one_ignored, dropped, dropping, fitted, renewed, heeding, cored, by_core}
use Rattle.tn_session.specs.Sent.{data_header}
use Rattle.tn_session.specs.TerminalTalk.{unkeyed, heard_act, worked_under, Presses}
use Rattle.tn_session.proofs.Pieces.{stands_same}
use Rattle.tn_session.proofs.Worked.{typed_core, received_core, obeyed_core}

abbrev run_of : TerminalState → TerminalRunning
run_of state = record { state = state; keys = [] }

-- the course goes on with a tolerant core, if it does
abbrev IsTolerantOn : Course TerminalState → Type 0
IsTolerantOn (goes state) = is_tolerant state.core ≡ true
IsTolerantOn (finishes state) = is_tolerant state.core ≡ true
IsTolerantOn (fails why end) = Unit {0}

abbrev StaysSo : Log TerminalRunning → Type 0
StaysSo log = IsTolerantOn (unkeyed log).course

by_test : (t : Bool) (a b : Log TerminalRunning) → StaysSo a → StaysSo b → StaysSo (cond t a b)
by_test true a b p q = p
by_test false a b p q = q

-- ---- a record

stands_so : (t : Bool) (typed : Typing) → is_tolerant typed.running.state.core ≡ true
    → StaysSo (cond t (finished typed.due typed.running) (going typed.due typed.running))
stands_so true typed is = is
stands_so false typed is = is

done_so : (agreed : Agreed) (did : Doing) → is_tolerant did.state.core ≡ true → StaysSo (standing (then_typed agreed [] did))
done_so agreed did is = stands_so (did.state.was_free && true) (then_typed agreed [] did) is

data_so : (agreed : Agreed) (header : Header) (state : TerminalState) (bytes : List ℕ) → is_tolerant state.core ≡ true
    → StaysSo (taken_data agreed header (run_of state) bytes)
data_so agreed header state bytes is =
    done_so agreed (received_data agreed header state bytes) (subst (λ (c : EndCore). is_tolerant c ≡ true) (sym (received_core agreed header state bytes)) is)

fields_so : (agreed : Agreed) (header : Header) (state : TerminalState) (bytes : List ℕ) (fields : Option (List Field)) → is_tolerant state.core ≡ true
    → StaysSo (tolerated_fields agreed header (run_of state) bytes fields)
fields_so agreed header state bytes None is = data_so agreed header state bytes is
fields_so agreed header state bytes (Some fields) is =
    done_so agreed (obeyed agreed header state fields) (subst (λ (c : EndCore). is_tolerant c ≡ true) (sym (obeyed_core agreed header state fields)) is)

some_so : (agreed : Agreed) (header : Header) (state : TerminalState) (bytes : List ℕ) → is_tolerant state.core ≡ true
    → StaysSo (tolerated_data agreed header (run_of state) bytes)
some_so agreed header state bytes is =
    by_test (nat_eq (length bytes) 0) (going (positive agreed header) (run_of (one_passed state))) (tolerated_fields agreed header (run_of state) bytes (fields_in bytes))
    is (fields_so agreed header state bytes (fields_in bytes) is)

type_so : (agreed : Agreed) (header : Header) (state : TerminalState) (bytes : List ℕ) (data_type : DataType) → is_tolerant state.core ≡ true
    → StaysSo (tolerated_typed agreed header (run_of state) bytes data_type)
type_so agreed header state bytes Data3270 is = some_so agreed header state bytes is
type_so agreed header state bytes Response is = is
type_so agreed header state bytes ScsData is = is
type_so agreed header state bytes BindImage is = is
type_so agreed header state bytes Unbind is = is
type_so agreed header state bytes NvtData is = is
type_so agreed header state bytes Request is = is
type_so agreed header state bytes SscpLuData is = is
type_so agreed header state bytes PrintEoj is = is

head_so : (agreed : Agreed) (state : TerminalState) (headed : Result Headed HeaderFault) → is_tolerant state.core ≡ true
    → StaysSo (tolerated_headed agreed (run_of state) headed)
head_so agreed state (Ok headed) is = type_so agreed headed.header state headed.rest headed.header.data_type is
head_so agreed state (Err why) is = is

dropped_so : (state : TerminalState) (bytes : List ℕ) → is_tolerant state.core ≡ true → is_tolerant (dropped state bytes).core ≡ true
dropped_so state bytes is = by_length (nat_eq (length bytes) 0)
  where
    by_length : (t : Bool) → is_tolerant (cond t (record state { drops = false }) (record state { drops = false; ignored = (one_ignored state).ignored })).core ≡ true
    by_length true = is
    by_length false = is

tolerated_so : (agreed : Agreed) (state : TerminalState) (bytes : List ℕ) → is_tolerant state.core ≡ true → StaysSo (tolerated agreed (run_of state) bytes)
tolerated_so agreed state bytes is =
    by_test state.drops (going [] (run_of (dropped state bytes)))
    (cond agreed.enhanced (tolerated_headed agreed (run_of state) (header_of bytes)) (tolerated_data agreed (data_header 0 0) (run_of state) bytes))
    (dropped_so state bytes is)
    (by_test agreed.enhanced (tolerated_headed agreed (run_of state) (header_of bytes)) (tolerated_data agreed (data_header 0 0) (run_of state) bytes)
    (head_so agreed state (header_of bytes) is) (some_so agreed (data_header 0 0) state bytes is))

record_so : (core : TolerantCore) (state : TerminalState) (agreed : Option Agreed) (bytes : List ℕ)
    → StaysSo (taken_record (run_of (record state { core = Tolerant core })) agreed bytes)
record_so core state None bytes = refl
record_so core state (Some agreed) bytes = tolerated_so agreed (record state { core = Tolerant core }) bytes refl

-- ---- another event

fits_so : (device : Device) (state : TerminalState) → is_tolerant state.core ≡ true → is_tolerant (fitted device state).core ≡ true
fits_so device state is = by_size (same_size state.terminal.geometry.alternate (alternate_of device.model))
  where
    by_size : (t : Bool) → is_tolerant (cond t state (renewed device state)).core ≡ true
    by_size true = is
    by_size false = is

drops_so : (told : Meant) (state : TerminalState) → is_tolerant state.core ≡ true → is_tolerant (dropping told state).core ≡ true
drops_so (means_ready agreed) state is = is
drops_so means_nothing state is = is
drops_so means_record state is = is

heeds_so : (core : TolerantCore) (told : Meant) (state : TerminalState) (event : Told) → is_tolerant (heeding (Tolerant core) told (cored state event (Tolerant core))).core ≡ true
heeds_so core told state event = fits_so core.core.device (dropping told (cored state event (Tolerant core))) (drops_so told (cored state event (Tolerant core)) refl)

step_so : (core : TolerantCore) (state : TerminalState) (event : Told) → StaysSo (by_core (run_of state) event (core_step (Tolerant core) event))
step_so core state (told_record bytes) =
    record_so (tolerant_step core (told_record bytes)).core state (core_agreed (Tolerant (tolerant_step core (told_record bytes)).core)) bytes
step_so core state (told_verb verb option) =
    heeds_so (tolerant_step core (told_verb verb option)).core (tolerant_step core (told_verb verb option)).told state (told_verb verb option)
step_so core state (told_sub option parameters) =
    heeds_so (tolerant_step core (told_sub option parameters)).core (tolerant_step core (told_sub option parameters)).told state (told_sub option parameters)
step_so core state (told_passed byte) =
    heeds_so (tolerant_step core (told_passed byte)).core (tolerant_step core (told_passed byte)).told state (told_passed byte)

event_so : (core : EndCore) (state : TerminalState) (event : Told) → is_tolerant core ≡ true → StaysSo (by_core (run_of state) event (core_step core event))
event_so (Tolerant core) state event is = step_so core state event
event_so (Strict core) state event is = absurd (subst (λ (b : Bool). cond b ⊥ (Unit {0})) is tt)

-- ---- events, and bytes

course_on : (due : List ℕ) (course : Course TerminalState) (later : TerminalState → Log TerminalState) → IsTolerantOn course
    → ((next : TerminalState) → is_tolerant next.core ≡ true → IsTolerantOn (later next).course) → IsTolerantOn (log_on due course later).course
course_on due (goes state) later is then_so = then_so state is
course_on due (finishes state) later is then_so = is
course_on due (fails why end) later is then_so = tt

events_so : (events : List Told) (state : TerminalState) → is_tolerant state.core ≡ true → IsTolerantOn (log_of heard_act state events).course
events_so [] state is = is
events_so (event ∷ events) state is =
    course_on (heard_act state event).due (heard_act state event).course (λ next. log_of heard_act next events)
    (event_so state.core state event is) (λ next. events_so events next)

-- a session that waits is of a tolerant terminal
abbrev pub IsTolerantAt : Standing TerminalState → Type 0
IsTolerantAt (waits state left) = is_tolerant state.core ≡ true
IsTolerantAt standing = Unit {0}

pub log_so : (a m : Standing TerminalState) (bytes due : List ℕ) → IsTolerantAt a → LogOn heard_act a bytes due m → IsTolerantAt m
log_so (waits s l) (waits n k) bytes due is log =
    subst (λ (z : Log TerminalState). IsTolerantOn z.course) log.log (events_so log.events s is)
log_so (waits s l) (is_over n) bytes due is log = tt
log_so (waits s l) (has_failed why end) bytes due is log = tt
log_so (waits s l) (is_at_fault fault end) bytes due is log = tt
log_so (is_over s) m bytes due is log = subst IsTolerantAt (sym log.1) tt
log_so (has_failed why end) m bytes due is log = subst IsTolerantAt (sym log.1) tt
log_so (is_at_fault fault end) m bytes due is log = subst IsTolerantAt (sym log.1) tt

-- ---- keys

worked_core : (agreed : Option Agreed) (state : TerminalState) (key : Strike) → (worked_under agreed state key).state.core ≡ state.core
worked_core None state key = refl
worked_core (Some agreed) state key = typed_core agreed state key

pub key_so : (a m : Standing TerminalState) (key : Strike) (r : Result Answer RunFault) (due : List ℕ) → IsTolerantAt a
    → Presses (stands a) key r due (stands m) → IsTolerantAt m
key_so (waits s l) m key (Ok answer) due is (told, gave, so) =
    subst IsTolerantAt (sym (stands_same so)) (subst (λ (c : EndCore). is_tolerant c ≡ true) (sym (worked_core (core_agreed s.core) s key)) is)
key_so (waits s l) m key (Err why) due is (out, none, sends, so) = let clash : ◌≡◌ {A = Talk TerminalState} (stands m) starved = so in absurd cc
key_so (is_over s) m key r due is p = subst IsTolerantAt (sym (stands_same p.2)) tt
key_so (has_failed why end) m key r due is p = subst IsTolerantAt (sym (stands_same p.2)) tt
key_so (is_at_fault fault end) m key r due is p = subst IsTolerantAt (sym (stands_same p.2)) tt
