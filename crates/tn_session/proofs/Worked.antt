-- The log of a run over a line with its keys is that of a terminal which is worked.
use Rattle.std.proofs.Common.{◌≡◌, ℕ, nat_eq, ◌&&◌, Bool, true, false, cond, List, [], ◌∷◌, ◌++◌, length, None, Some, Ok, Err, refl, sym, ◌∙◌, ap, append_assoc}
use Rattle.std.specs.Prelude.{Option, Result}
use Rattle.std.proofs.lemmas.List.{append-nil}
use Rattle.ds_structured.specs.Fields.{Field, query, draw, fields_in}
use Rattle.ds_terminal.specs.declared.refused.Refused.{Refused}
use Rattle.ds_terminal.specs.Terminal.{Reply, shown, answered, nothing, refused, KeyReply, done, inhibited, ignored, sent, received}
use Rattle.tn_wire.specs.declared.header.DataType.{DataType}
use Rattle.tn_wire.specs.declared.header.DataType.TheVariants.{Data3270, ScsData, Response, BindImage, Unbind, NvtData, Request, SscpLuData, PrintEoj}
use Rattle.tn_wire.specs.declared.header.Header.{Header}
use Rattle.tn_wire.specs.declared.header.HeaderFault.{HeaderFault}
use Rattle.tn_wire.specs.Header.{Headed, header_of}
use Rattle.tn_wire.specs.Stream.{Told, told_record, told_verb, told_sub, told_passed}
use Rattle.tn_cores.specs.declared.session.Agreed.{Agreed}
use Rattle.tn_cores.specs.declared.session.SessionFault.{SessionFault}
use Rattle.tn_session.specs.declared.end_core.EndCore.{EndCore}
use Rattle.tn_cores.specs.Steps.{Stepped}
use Rattle.tn_session.specs.declared.fault.RunFault.{RunFault}
use Rattle.tn_session.specs.declared.fault.RunFault.TheVariants as faults
use Rattle.tn_session.specs.declared.terminal_state.TerminalState.{TerminalState}
use Rattle.tn_session.specs.EndCores.{core_step, core_agreed, is_tolerant}
use Rattle.tn_session.specs.Acts.{Deed, came, pressed, worked_log, events_in, keys_in, AreLeft, IsWorked, RunsAreWorked}
use Rattle.tn_session.specs.Runs.{Course, goes, finishes, fails, Log, going, finished, failed, log_on, log_of}
use Rattle.tn_session.specs.Strikes.{Strike, strike_aid, Struck, struck_by}
use Rattle.tn_session.specs.TerminalLog as log
use Rattle.tn_session.specs.TerminalLog.{TerminalRunning, Doing, Typing, is_waiting, typing, before, then_typed, standing, typed_key, received_data, taken_data, taken_typed, taken_headed, strictly_taken, taken_record, passed_over, positive, tolerated_data, tolerated_fields, field_obeyed, then_obeyed, fields_obeyed, responded, obeyed, Fielding, tolerated_typed, tolerated_headed, tolerated, one_passed, one_ignored, noting, dropped, heeding, with_core, cored, stepped, by_core, terminal_act}
use Rattle.tn_session.specs.Sent.{data_header}
use Rattle.tn_session.specs.TerminalTalk.{unkeyed, heard_act, worked_under, worked}

abbrev run_of : TerminalState → List Strike → TerminalRunning
run_of state keys = record { state = state; keys = keys }

-- ---- keys leave the session's core

core_replied : (agreed : Agreed) (state : TerminalState) (reply : KeyReply) → (log.key_replied agreed state reply).state.core ≡ state.core
core_replied agreed state (sent bytes) = refl
core_replied agreed state done = refl
core_replied agreed state inhibited = refl
core_replied agreed state ignored = refl

pub typed_core : (agreed : Agreed) (state : TerminalState) (key : Strike) → (typed_key agreed state key).state.core ≡ state.core
typed_core agreed state key =
    let did : Struck = struck_by key (log.operator_at state) in
    core_replied agreed (log.after_key state (strike_aid key) did) did.turn.reply

record_replied : (agreed : Agreed) (header : Header) (state : TerminalState) (reply : Reply) → (log.replied agreed header state reply).state.core ≡ state.core
record_replied agreed header state (shown effect) = refl
record_replied agreed header state (answered bytes) = refl
record_replied agreed header state nothing = refl
record_replied agreed header state (refused why) = refl

pub received_core : (agreed : Agreed) (header : Header) (state : TerminalState) (bytes : List ℕ) → (received_data agreed header state bytes).state.core ≡ state.core
received_core agreed header state bytes = record_replied agreed header (log.after_record state bytes (received state.terminal bytes)) (received state.terminal bytes).reply

field_core : (agreed : Agreed) (state : TerminalState) (field : Field) → (field_obeyed agreed state field).state.core ≡ state.core
field_core agreed state (query wanted) = refl
field_core agreed state (draw bytes) = refl

then_core : (core : EndCore) (did : Fielding) (why : Option Refused) (others : TerminalState → Fielding) → did.state.core ≡ core
    → ((next : TerminalState) → (others next).state.core ≡ next.core) → (then_obeyed did why others).state.core ≡ core
then_core core did None others same rest = rest did.state ∙ same
then_core core did (Some why) others same rest = same

fields_core : (agreed : Agreed) (state : TerminalState) (fields : List Field) → (fields_obeyed agreed state fields).state.core ≡ state.core
fields_core agreed state [] = refl
fields_core agreed state (field ∷ fields) =
    then_core state.core (field_obeyed agreed state field) (field_obeyed agreed state field).refused (λ next. fields_obeyed agreed next fields)
    (field_core agreed state field) (λ next. fields_core agreed next fields)

responded_core : (agreed : Agreed) (header : Header) (did : Fielding) (why : Option Refused) → (responded agreed header did why).state.core ≡ did.state.core
responded_core agreed header did None = refl
responded_core agreed header did (Some why) = refl

pub obeyed_core : (agreed : Agreed) (header : Header) (state : TerminalState) (fields : List Field) → (obeyed agreed header state fields).state.core ≡ state.core
obeyed_core agreed header state fields =
    responded_core agreed header (fields_obeyed agreed state fields) (fields_obeyed agreed state fields).refused ∙ fields_core agreed state fields

-- ---- the keys that a run presses after a record

abbrev deeds_of : List Strike → List Deed
deeds_of [] = []
deeds_of (key ∷ keys) = pressed key ∷ deeds_of keys

no_events : (keys : List Strike) → events_in (deeds_of keys) ≡ []
no_events [] = refl
no_events (key ∷ keys) = no_events keys

same_keys : (keys : List Strike) → keys_in (deeds_of keys) ≡ keys
same_keys [] = refl
same_keys (key ∷ keys) = ap (λ z. key ∷ z) (same_keys keys)

record IsTyped (agreed : Agreed) (state : TerminalState) (keys : List Strike) (typed : Typing) : Type 0 where
  used : List Strike
  keys_are : keys ≡ used ++ typed.running.keys
  log_is : worked_log state (deeds_of used) ≡ going typed.due typed.running.state

none_typed : (agreed : Agreed) (state : TerminalState) (keys : List Strike) → IsTyped agreed state keys (record { due = []; running = run_of state keys })
none_typed agreed state keys = record { used = []; keys_are = refl; log_is = refl }

-- a key of a session that is ready is typed
worked_typed : (agreed : Agreed) (state : TerminalState) (key : Strike) (deeds : List Deed) → core_agreed state.core ≡ Some agreed
    → worked_log state (pressed key ∷ deeds) ≡ log_on (typed_key agreed state key).due (goes (typed_key agreed state key).state) (λ next. worked_log next deeds)
worked_typed agreed state key deeds ready =
    ap (λ (o : Option Agreed). log_on (worked_under o state key).due (goes (worked_under o state key).state) (λ next. worked_log next deeds)) ready

typing_typed : (agreed : Agreed) (state : TerminalState) (keys : List Strike) → core_agreed state.core ≡ Some agreed → IsTyped agreed state keys (typing agreed state keys)
typing_typed agreed state [] ready = none_typed agreed state []
typing_typed agreed state (key ∷ keys) ready =
    by_lock (is_waiting state.terminal.lock) (typing_typed agreed (typed_key agreed state key).state keys (ap core_agreed (typed_core agreed state key) ∙ ready))
  where
    by_lock : (t : Bool) → IsTyped agreed (typed_key agreed state key).state keys (typing agreed (typed_key agreed state key).state keys)
        → IsTyped agreed state (key ∷ keys) (cond t (record { due = []; running = run_of state (key ∷ keys) }) (before (typed_key agreed state key).due (typing agreed (typed_key agreed state key).state keys)))
    by_lock true later = none_typed agreed state (key ∷ keys)
    by_lock false later = record {
      used = key ∷ later.used;
      keys_are = ap (λ z. key ∷ z) later.keys_are;
      log_is = worked_typed agreed state key (deeds_of later.used) ready
          ∙ ap (λ (l : Log TerminalState). record { due = (typed_key agreed state key).due ++ l.due; course = l.course }) later.log_is;
    }

-- ---- one event, with the keys after it

-- a run with keys did this where one without did that
record Follows (keys : List Strike) (bare full : Log TerminalRunning) : Type 0 where
  used : List Strike
  left : List Strike
  keys_are : keys ≡ used ++ left
  are_left : AreLeft left full.course
  log_is : log_on (unkeyed bare).due (unkeyed bare).course (λ next. worked_log next (deeds_of used)) ≡ unkeyed full

fail_follows : (keys : List Strike) (why : RunFault) (state : TerminalState) → Follows keys (failed why (run_of state [])) (failed why (run_of state keys))
fail_follows keys why state = record { used = []; left = keys; keys_are = refl; are_left = refl; log_is = refl }

going_follows : (keys : List Strike) (due : List ℕ) (state : TerminalState) → Follows keys (going due (run_of state [])) (going due (run_of state keys))
going_follows keys due state =
    record { used = []; left = keys; keys_are = refl; are_left = refl; log_is = ap (λ (z : List ℕ). going z state) (append-nil due) }

test_follows : (keys : List Strike) (t : Bool) (a b c d : Log TerminalRunning) → Follows keys a c → Follows keys b d → Follows keys (cond t a b) (cond t c d)
test_follows keys true a b c d p q = p
test_follows keys false a b c d p q = q

stands_unkeyed : (t : Bool) (typed : Typing) → unkeyed (cond t (finished typed.due typed.running) (going typed.due typed.running)) ≡ going typed.due typed.running.state
stands_unkeyed true typed = refl
stands_unkeyed false typed = refl

stands_left : (t : Bool) (typed : Typing) → AreLeft typed.running.keys (cond t (finished typed.due typed.running) (going typed.due typed.running)).course
stands_left true typed = refl
stands_left false typed = refl

typed_follows : (agreed : Agreed) (keys : List Strike) (did : Doing) → core_agreed did.state.core ≡ Some agreed
    → Follows keys (standing (then_typed agreed [] did)) (standing (then_typed agreed keys did))
typed_follows agreed keys did ready =
    let typed : Typing = then_typed agreed keys did in
    let so : IsTyped agreed did.state keys (typing agreed did.state keys) = typing_typed agreed did.state keys ready in
    let bare : unkeyed (standing (then_typed agreed [] did)) ≡ going (did.due ++ []) did.state =
    stands_unkeyed (did.state.was_free && true) (then_typed agreed [] did) in
    record {
      used = so.used;
      left = typed.running.keys;
      keys_are = so.keys_are;
      are_left = stands_left (typed.running.state.was_free && nat_eq (length typed.running.keys) 0) typed;
      log_is = ap (λ (l : Log TerminalState). log_on l.due l.course (λ next. worked_log next (deeds_of so.used))) bare
          ∙ ap (λ (l : Log TerminalState). record { due = (did.due ++ []) ++ l.due; course = l.course }) so.log_is
          ∙ ap (λ (z : List ℕ). going (z ++ (typing agreed did.state keys).due) typed.running.state) (append-nil did.due)
          ∙ sym (stands_unkeyed (typed.running.state.was_free && nat_eq (length typed.running.keys) 0) typed);
    }

data_follows : (agreed : Agreed) (header : Header) (keys : List Strike) (state : TerminalState) (bytes : List ℕ) → core_agreed state.core ≡ Some agreed
    → Follows keys (taken_data agreed header (run_of state []) bytes) (taken_data agreed header (run_of state keys) bytes)
data_follows agreed header keys state bytes ready =
    typed_follows agreed keys (received_data agreed header state bytes) (ap core_agreed (received_core agreed header state bytes) ∙ ready)

passed_follows : (keys : List Strike) (state : TerminalState) → Follows keys (passed_over (run_of state [])) (passed_over (run_of state keys))
passed_follows keys state = going_follows keys [] (record state { passed = log.one_more state.passed })

typed_data_follows : (agreed : Agreed) (header : Header) (keys : List Strike) (state : TerminalState) (bytes : List ℕ) (data_type : DataType) → core_agreed state.core ≡ Some agreed
    → Follows keys (taken_typed agreed header (run_of state []) bytes data_type) (taken_typed agreed header (run_of state keys) bytes data_type)
typed_data_follows agreed header keys state bytes Data3270 ready = data_follows agreed header keys state bytes ready
typed_data_follows agreed header keys state bytes Response ready = passed_follows keys state
typed_data_follows agreed header keys state bytes ScsData ready = passed_follows keys state
typed_data_follows agreed header keys state bytes BindImage ready = passed_follows keys state
typed_data_follows agreed header keys state bytes Unbind ready = passed_follows keys state
typed_data_follows agreed header keys state bytes NvtData ready = passed_follows keys state
typed_data_follows agreed header keys state bytes Request ready = passed_follows keys state
typed_data_follows agreed header keys state bytes SscpLuData ready = passed_follows keys state
typed_data_follows agreed header keys state bytes PrintEoj ready = passed_follows keys state

headed_follows : (agreed : Agreed) (keys : List Strike) (state : TerminalState) (headed : Result Headed HeaderFault) → core_agreed state.core ≡ Some agreed
    → Follows keys (taken_headed agreed (run_of state []) headed) (taken_headed agreed (run_of state keys) headed)
headed_follows agreed keys state (Ok headed) ready = typed_data_follows agreed headed.header keys state headed.rest headed.header.data_type ready
headed_follows agreed keys state (Err why) ready = fail_follows keys (faults.Header why) state

-- the same at a tolerant terminal

obeyed_follows : (agreed : Agreed) (header : Header) (keys : List Strike) (state : TerminalState) (bytes : List ℕ) (fields : Option (List Field))
    → core_agreed state.core ≡ Some agreed
    → Follows keys (tolerated_fields agreed header (run_of state []) bytes fields) (tolerated_fields agreed header (run_of state keys) bytes fields)
obeyed_follows agreed header keys state bytes None ready = data_follows agreed header keys state bytes ready
obeyed_follows agreed header keys state bytes (Some fields) ready =
    typed_follows agreed keys (obeyed agreed header state fields) (ap core_agreed (obeyed_core agreed header state fields) ∙ ready)

empty_follows : (agreed : Agreed) (header : Header) (keys : List Strike) (state : TerminalState) (bytes : List ℕ) → core_agreed state.core ≡ Some agreed
    → Follows keys (tolerated_data agreed header (run_of state []) bytes) (tolerated_data agreed header (run_of state keys) bytes)
empty_follows agreed header keys state bytes ready =
    test_follows keys (nat_eq (length bytes) 0) (going (positive agreed header) (run_of (one_passed state) [])) (tolerated_fields agreed header (run_of state []) bytes (fields_in bytes))
    (going (positive agreed header) (run_of (one_passed state) keys)) (tolerated_fields agreed header (run_of state keys) bytes (fields_in bytes))
    (going_follows keys (positive agreed header) (one_passed state)) (obeyed_follows agreed header keys state bytes (fields_in bytes) ready)

tolerated_type_follows : (agreed : Agreed) (header : Header) (keys : List Strike) (state : TerminalState) (bytes : List ℕ) (data_type : DataType)
    → core_agreed state.core ≡ Some agreed
    → Follows keys (tolerated_typed agreed header (run_of state []) bytes data_type) (tolerated_typed agreed header (run_of state keys) bytes data_type)
tolerated_type_follows agreed header keys state bytes Data3270 ready = empty_follows agreed header keys state bytes ready
tolerated_type_follows agreed header keys state bytes Response ready = going_follows keys [] (one_passed state)
tolerated_type_follows agreed header keys state bytes ScsData ready = going_follows keys [] (one_passed state)
tolerated_type_follows agreed header keys state bytes BindImage ready = going_follows keys [] (one_passed state)
tolerated_type_follows agreed header keys state bytes Unbind ready = going_follows keys [] (one_passed state)
tolerated_type_follows agreed header keys state bytes NvtData ready = going_follows keys [] (noting state bytes)
tolerated_type_follows agreed header keys state bytes Request ready = going_follows keys [] (one_passed state)
tolerated_type_follows agreed header keys state bytes SscpLuData ready = going_follows keys [] (one_passed state)
tolerated_type_follows agreed header keys state bytes PrintEoj ready = going_follows keys [] (one_passed state)

tolerated_head_follows : (agreed : Agreed) (keys : List Strike) (state : TerminalState) (headed : Result Headed HeaderFault) → core_agreed state.core ≡ Some agreed
    → Follows keys (tolerated_headed agreed (run_of state []) headed) (tolerated_headed agreed (run_of state keys) headed)
tolerated_head_follows agreed keys state (Ok headed) ready = tolerated_type_follows agreed headed.header keys state headed.rest headed.header.data_type ready
tolerated_head_follows agreed keys state (Err why) ready = going_follows keys [] (one_passed state)

tolerated_follows : (agreed : Agreed) (keys : List Strike) (state : TerminalState) (bytes : List ℕ) → core_agreed state.core ≡ Some agreed
    → Follows keys (tolerated agreed (run_of state []) bytes) (tolerated agreed (run_of state keys) bytes)
tolerated_follows agreed keys state bytes ready =
    test_follows keys state.drops (going [] (run_of (dropped state bytes) []))
    (cond agreed.enhanced (tolerated_headed agreed (run_of state []) (header_of bytes)) (tolerated_data agreed (data_header 0 0) (run_of state []) bytes))
    (going [] (run_of (dropped state bytes) keys))
    (cond agreed.enhanced (tolerated_headed agreed (run_of state keys) (header_of bytes)) (tolerated_data agreed (data_header 0 0) (run_of state keys) bytes))
    (going_follows keys [] (dropped state bytes))
    (test_follows keys agreed.enhanced (tolerated_headed agreed (run_of state []) (header_of bytes)) (tolerated_data agreed (data_header 0 0) (run_of state []) bytes)
    (tolerated_headed agreed (run_of state keys) (header_of bytes)) (tolerated_data agreed (data_header 0 0) (run_of state keys) bytes)
    (tolerated_head_follows agreed keys state (header_of bytes) ready) (empty_follows agreed (data_header 0 0) keys state bytes ready))

record_follows : (keys : List Strike) (state : TerminalState) (agreed : Option Agreed) (bytes : List ℕ) → core_agreed state.core ≡ agreed
    → Follows keys (taken_record (run_of state []) agreed bytes) (taken_record (run_of state keys) agreed bytes)
record_follows keys state None bytes ready = going_follows keys [] (one_ignored state)
record_follows keys state (Some agreed) bytes ready =
    test_follows keys (is_tolerant state.core) (tolerated agreed (run_of state []) bytes) (strictly_taken agreed (run_of state []) bytes)
    (tolerated agreed (run_of state keys) bytes) (strictly_taken agreed (run_of state keys) bytes)
    (tolerated_follows agreed keys state bytes ready)
    (test_follows keys agreed.enhanced (taken_headed agreed (run_of state []) (header_of bytes)) (taken_data agreed (data_header 0 0) (run_of state []) bytes)
    (taken_headed agreed (run_of state keys) (header_of bytes)) (taken_data agreed (data_header 0 0) (run_of state keys) bytes)
    (headed_follows agreed keys state (header_of bytes) ready) (data_follows agreed (data_header 0 0) keys state bytes ready))

stepped_follows : (keys : List Strike) (state : TerminalState) (event : Told) (step : Stepped EndCore)
    → Follows keys (stepped (run_of state []) event step) (stepped (run_of state keys) event step)
stepped_follows keys state (told_record bytes) step =
    record_follows keys (record state { core = step.core }) (core_agreed step.core) bytes refl
stepped_follows keys state (told_verb verb option) step = going_follows keys _ (heeding step.core step.told (cored state (told_verb verb option) step.core))
stepped_follows keys state (told_sub option parameters) step = going_follows keys _ (heeding step.core step.told (cored state (told_sub option parameters) step.core))
stepped_follows keys state (told_passed byte) step = going_follows keys _ (heeding step.core step.told (cored state (told_passed byte) step.core))

core_follows : (keys : List Strike) (state : TerminalState) (event : Told) (step : Result (Stepped EndCore) SessionFault)
    → Follows keys (by_core (run_of state []) event step) (by_core (run_of state keys) event step)
core_follows keys state event (Ok step) = stepped_follows keys state event step
core_follows keys state event (Err why) = fail_follows keys (faults.Session why) state

event_follows : (running : TerminalRunning) (event : Told) → Follows running.keys (terminal_act (run_of running.state []) event) (terminal_act running event)
event_follows running event = core_follows running.keys running.state event (core_step running.state.core event)

-- ---- all events

events_keyed : (keys : List Strike) (deeds : List Deed) → events_in (deeds_of keys ++ deeds) ≡ events_in deeds
events_keyed [] deeds = refl
events_keyed (key ∷ keys) deeds = events_keyed keys deeds

keys_keyed : (keys : List Strike) (deeds : List Deed) → keys_in (deeds_of keys ++ deeds) ≡ keys ++ keys_in deeds
keys_keyed [] deeds = refl
keys_keyed (key ∷ keys) deeds = ap (λ z. key ∷ z) (keys_keyed keys deeds)

append_on : (c : Course TerminalState) (d : List ℕ) (xs ys : List Deed) (due : List ℕ) (next : TerminalState)
    → ((m : TerminalState) (b : List ℕ) → worked_log m xs ≡ going b next → worked_log m (xs ++ ys) ≡ log_on b (goes next) (λ n. worked_log n ys))
    → log_on d c (λ n. worked_log n xs) ≡ going due next → log_on d c (λ n. worked_log n (xs ++ ys)) ≡ log_on due (goes next) (λ n. worked_log n ys)
append_on (goes m) d xs ys due next ih is =
    let inner : Log TerminalState = worked_log m xs in
    let last : Log TerminalState = worked_log next ys in
    let at : worked_log m xs ≡ going inner.due next =
    ap (λ (c : Course TerminalState). record { due = inner.due; course = c }) (ap (λ (l : Log TerminalState). l.course) is) in
    let later : worked_log m (xs ++ ys) ≡ record { due = inner.due ++ last.due; course = last.course } = ih m inner.due at in
    let dues : d ++ inner.due ≡ due = ap (λ (l : Log TerminalState). l.due) is in
    ap (λ (l : Log TerminalState). record { due = d ++ l.due; course = l.course }) later
    ∙ ap (λ (z : List ℕ). record { due = z; course = last.course }) (sym (append_assoc d inner.due last.due) ∙ ap (λ z. z ++ last.due) dues)
append_on (finishes m) d xs ys due next ih is = let clash : finishes m ≡ goes next = ap (λ (l : Log TerminalState). l.course) is in absurd cc
append_on (fails why end) d xs ys due next ih is = let clash : fails why end ≡ goes next = ap (λ (l : Log TerminalState). l.course) is in absurd cc

goes_is : {s t : TerminalState} → goes s ≡ goes t → s ≡ t
goes_is e = cc

worked_append : (xs ys : List Deed) (s : TerminalState) (due : List ℕ) (next : TerminalState) → worked_log s xs ≡ going due next
    → worked_log s (xs ++ ys) ≡ log_on due (goes next) (λ n. worked_log n ys)
worked_append [] ys s due next is =
    let same : s ≡ next = goes_is (ap (λ (l : Log TerminalState). l.course) is) in
    let dues : [] ≡ due = ap (λ (l : Log TerminalState). l.due) is in
    ap (λ (n : TerminalState). worked_log n ys) same ∙ ap (λ (z : List ℕ). log_on z (goes next) (λ n. worked_log n ys)) dues
worked_append (came event ∷ xs) ys s due next is =
    append_on (heard_act s event).course (heard_act s event).due xs ys due next (λ m b at. worked_append xs ys m b next at) is
worked_append (pressed key ∷ xs) ys s due next is =
    append_on (goes (worked s key).state) (worked s key).due xs ys due next (λ m b at. worked_append xs ys m b next at) is

-- the run is over at this event
over_here : (running : TerminalRunning) (event : Told) (events : List Told) (l : Log TerminalRunning)
    → Follows running.keys (terminal_act (run_of running.state []) event) l → IsWorked running (event ∷ events) l
over_here running event events l f = record {
  deeds = came event ∷ deeds_of f.used;
  more = events;
  left = f.left;
  hears = ap (λ z. event ∷ z) (sym (ap (λ z. z ++ events) (no_events f.used)));
  keys = f.keys_are ∙ sym (ap (λ z. z ++ f.left) (same_keys f.used));
  are_left = f.are_left;
  log_is = f.log_is;
}

goes_on : (running next : TerminalRunning) (event : Told) (events : List Told) (d : List ℕ)
    → Follows running.keys (terminal_act (run_of running.state []) event) (record { due = d; course = goes next })
    → IsWorked next events (log_of terminal_act next events)
    → IsWorked running (event ∷ events) (log_on d (goes next) (λ n. log_of terminal_act n events))
goes_on running next event events d f later = record {
  deeds = came event ∷ (deeds_of f.used ++ later.deeds);
  more = later.more;
  left = later.left;
  hears = ap (λ z. event ∷ z) (later.hears ∙ sym (ap (λ z. z ++ later.more) (events_keyed f.used later.deeds)));
  keys = f.keys_are ∙ ap (λ z. f.used ++ z) (f.are_left ∙ later.keys) ∙ sym (append_assoc f.used (keys_in later.deeds) later.left)
      ∙ sym (ap (λ z. z ++ later.left) (keys_keyed f.used later.deeds));
  are_left = later.are_left;
  log_is = worked_append (came event ∷ deeds_of f.used) later.deeds running.state d next.state f.log_is
      ∙ ap (λ (l : Log TerminalState). record { due = d ++ l.due; course = l.course }) later.log_is;
}

by_course : (c : Course TerminalRunning) (d : List ℕ) (running : TerminalRunning) (event : Told) (events : List Told)
    → Follows running.keys (terminal_act (run_of running.state []) event) (record { due = d; course = c })
    → ((next : TerminalRunning) → IsWorked next events (log_of terminal_act next events))
    → IsWorked running (event ∷ events) (log_on d c (λ n. log_of terminal_act n events))
by_course (goes next) d running event events f later = goes_on running next event events d f (later next)
by_course (finishes end) d running event events f later = over_here running event events (record { due = d; course = finishes end }) f
by_course (fails why end) d running event events f later = over_here running event events (record { due = d; course = fails why end }) f

pub runs_are_worked : RunsAreWorked
runs_are_worked running [] = record { deeds = []; more = []; left = running.keys; hears = refl; keys = refl; are_left = refl; log_is = refl }
runs_are_worked running (event ∷ events) =
    by_course (terminal_act running event).course (terminal_act running event).due running event events (event_follows running event)
    (λ next. runs_are_worked next events)
