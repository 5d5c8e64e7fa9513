-- Without insert mode strokes that are keys do what keys do, one by one and in a run.
use Rattle.std.proofs.Common.{◌≡◌, ℕ, nat_eq, ◌&&◌, Bool, true, false, cond, List, [], ◌∷◌, length, map, None, Some, Ok, Err, refl, sym, ◌∙◌, ap}
use Rattle.std.specs.Prelude.{Option, Result}
use Rattle.std.proofs.lemmas.List.{length-map}
use Rattle.ds_screen.specs.Picture.{Picture}
use Rattle.ds_keys.specs.declared.key.Key.{Key}
use Rattle.ds_keys.specs.declared.pressed.Pressed as keyed
use Rattle.ds_keys.specs.declared.pressed.Pressed.TheVariants.{Done, Inhibited, Ignored, Sent}
use Rattle.ds_keys.specs.KeyStep.{Step, step, step_of}
use Rattle.ds_strokes.specs.declared.stroke.Stroke.TheVariants as stroke
use Rattle.ds_strokes.specs.StrokeStep.{operating, after_stroke, stroke_answer, inserts_after}
use Rattle.ds_strokes.proofs.PressLaws.{struck_without}
use Rattle.ds_terminal.specs.Terminal.{Reply, shown, answered, nothing, refused, KeyReply, done, inhibited, ignored, sent, KeyTurn, key_turn, key_reply, received, pressed}
use Rattle.ds_terminal.specs.Strokes.{key_aid}
use Rattle.ds_structured.specs.Fields.{Field, query, draw, fields_in}
use Rattle.ds_terminal.specs.declared.refused.Refused.{Refused}
use Rattle.tn_wire.specs.declared.header.DataType.{DataType}
use Rattle.tn_wire.specs.declared.header.DataType.TheVariants.{Data3270, ScsData, Response, BindImage, Unbind, NvtData, Request, SscpLuData, PrintEoj}
use Rattle.tn_wire.specs.declared.header.Header.{Header}
use Rattle.tn_wire.specs.declared.header.HeaderFault.{HeaderFault}
use Rattle.tn_wire.specs.Header.{Headed, header_of}
use Rattle.tn_wire.specs.Stream.{Told, told_record, told_verb, told_sub, told_passed}
use Rattle.tn_cores.specs.declared.session.Agreed.{Agreed}
use Rattle.tn_cores.specs.declared.session.SessionFault.{SessionFault}
use Rattle.tn_cores.specs.declared.device.Device.{Device}
use Rattle.tn_cores.specs.declared.session.Told.{Told as Meant}
use Rattle.tn_cores.specs.declared.session.Told.TheVariants.{Nothing as means_nothing, Ready as means_ready, Record as means_record}
use Rattle.ds_codec.specs.Same.{same_size}
use Rattle.tn_cores.specs.Devices.{alternate_of}
use Rattle.tn_session.specs.declared.end_core.EndCore.{EndCore}
use Rattle.tn_session.specs.declared.end_core.EndCore.TheVariants.{Strict, Tolerant}
use Rattle.tn_session.specs.EndCores.{core_step, core_agreed, is_tolerant}
use Rattle.tn_cores.specs.Steps.{Stepped}
use Rattle.tn_session.specs.declared.fault.RunFault.{RunFault}
use Rattle.tn_session.specs.declared.fault.RunFault.TheVariants as faults
use Rattle.tn_session.specs.declared.terminal_state.TerminalState.{TerminalState}
use Rattle.tn_session.specs.KeyStrokes.{as_stroke, StrokesAreKeys, striking, striking_log, striking_course, RunsOfKeysAgree}
use Rattle.tn_session.specs.Runs.{Course, goes, finishes, fails, Log, going, finished, failed, log_on, log_of}
use Rattle.tn_session.specs.Sent.{data_header}
use Rattle.tn_session.specs.Strikes.{Strike, by_key, by_stroke, Struck, struck, struck_by}
use Rattle.tn_session.specs.TerminalLog as log
use Rattle.tn_session.specs.TerminalLog.{TerminalRunning, Doing, Typing, is_waiting, operator_at, typing, before, then_typed, standing, key_turned, typed_key, received_data, taken_data, taken_typed, taken_headed, taken_record, passed_over, with_core, cored, stepped, by_core, terminal_start, terminal_act, strictly_taken, goes_with, one_passed, one_ignored, one_more, positive, noting, dropped, tolerated_fields, field_obeyed, then_obeyed, fields_obeyed, responded, obeyed, Fielding, tolerated_data, tolerated_typed, tolerated_headed, tolerated, dropping, fitted, renewed, heeding}
use Rattle.tn_session.specs.TerminalTalk.{key_answer, worked_under}

-- ---- one

off_still : (key : Key) (told : keyed.Pressed) → inserts_after false (stroke.Key key) told ≡ false
off_still key Done = refl
off_still key (Sent aid) = refl
off_still key Inhibited = refl
off_still key Ignored = refl

same_step : (v : Picture) (key : Key)
    → step (after_stroke (operating v false) (stroke.Key key)).screen (stroke_answer (operating v false) (stroke.Key key)) ≡ step_of v key
same_step v key =
    struck_without (operating v false) (after_stroke (operating v false) (stroke.Key key)) (stroke.Key key) (stroke_answer (operating v false) (stroke.Key key)) refl
    (record { after_it = refl; answered = refl })

off_same : (v : Picture) (key : Key) → struck_by (by_stroke (stroke.Key key)) (operating v false) ≡ struck_by (by_key key) (operating v false)
off_same v key =
    ap (λ (t : KeyTurn). struck t (after_stroke (operating v false) (stroke.Key key)).inserts)
    (ap (λ (s : Step). key_turn s.after (key_reply s.pressed s.after)) (same_step v key))
    ∙ ap (struck (pressed v key)) (off_still key (stroke_answer (operating v false) (stroke.Key key)))

same : (state : TerminalState) (key : Key) → state.inserts ≡ false
    → struck_by (by_stroke (stroke.Key key)) (operator_at state) ≡ struck_by (by_key key) (operator_at state)
same state key off =
    ap (λ (b : Bool). struck_by (by_stroke (stroke.Key key)) (operating state.terminal b)) off ∙ off_same state.terminal key
    ∙ sym (ap (λ (b : Bool). struck_by (by_key key) (operating state.terminal b)) off)

typed_same : (agreed : Agreed) (state : TerminalState) (key : Key) → state.inserts ≡ false
    → typed_key agreed state (by_stroke (stroke.Key key)) ≡ typed_key agreed state (by_key key)
typed_same agreed state key off = ap (key_turned agreed state (key_aid key)) (same state key off)

under_same : (agreed : Option Agreed) (state : TerminalState) (key : Key) → state.inserts ≡ false
    → worked_under agreed state (by_stroke (stroke.Key key)) ≡ worked_under agreed state (by_key key)
under_same None state key off = refl
under_same (Some agreed) state key off =
    ap (λ (did : Struck). record {
      due = (key_turned agreed state (key_aid key) did).due;
      state = (key_turned agreed state (key_aid key) did).state;
      answer = key_answer did.turn.reply;
    }) (same state key off)

pub strokes_are_keys : StrokesAreKeys
strokes_are_keys state key off = under_same (core_agreed state.core) state key off

-- ---- keys and records leave insert mode

key_replied_off : (agreed : Agreed) (state : TerminalState) (reply : KeyReply) → (log.key_replied agreed state reply).state.inserts ≡ state.inserts
key_replied_off agreed state (sent bytes) = refl
key_replied_off agreed state done = refl
key_replied_off agreed state inhibited = refl
key_replied_off agreed state ignored = refl

typed_off : (agreed : Agreed) (state : TerminalState) (key : Key) → (typed_key agreed state (by_key key)).state.inserts ≡ state.inserts
typed_off agreed state key =
    let did : Struck = struck_by (by_key key) (operator_at state) in
    key_replied_off agreed (log.after_key state (key_aid key) did) did.turn.reply

replied_off : (agreed : Agreed) (header : Header) (state : TerminalState) (reply : Reply) → (log.replied agreed header state reply).state.inserts ≡ state.inserts
replied_off agreed header state (shown effect) = refl
replied_off agreed header state (answered bytes) = refl
replied_off agreed header state nothing = refl
replied_off agreed header state (refused why) = refl

received_off : (agreed : Agreed) (header : Header) (state : TerminalState) (bytes : List ℕ) → (received_data agreed header state bytes).state.inserts ≡ state.inserts
received_off agreed header state bytes = replied_off agreed header (log.after_record state bytes (received state.terminal bytes)) (received state.terminal bytes).reply

field_off : (agreed : Agreed) (state : TerminalState) (field : Field) → (field_obeyed agreed state field).state.inserts ≡ state.inserts
field_off agreed state (query wanted) = refl
field_off agreed state (draw bytes) = refl

then_off : (inserts : Bool) (did : Fielding) (why : Option Refused) (others : TerminalState → Fielding) → did.state.inserts ≡ inserts
    → ((next : TerminalState) → (others next).state.inserts ≡ next.inserts) → (then_obeyed did why others).state.inserts ≡ inserts
then_off inserts did None others same rest = rest did.state ∙ same
then_off inserts did (Some why) others same rest = same

fields_off : (agreed : Agreed) (state : TerminalState) (fields : List Field) → (fields_obeyed agreed state fields).state.inserts ≡ state.inserts
fields_off agreed state [] = refl
fields_off agreed state (field ∷ fields) =
    then_off state.inserts (field_obeyed agreed state field) (field_obeyed agreed state field).refused (λ next. fields_obeyed agreed next fields)
    (field_off agreed state field) (λ next. fields_off agreed next fields)

responded_off : (agreed : Agreed) (header : Header) (did : Fielding) (why : Option Refused) → (responded agreed header did why).state.inserts ≡ did.state.inserts
responded_off agreed header did None = refl
responded_off agreed header did (Some why) = refl

obeyed_off : (agreed : Agreed) (header : Header) (state : TerminalState) (fields : List Field) → (obeyed agreed header state fields).state.inserts ≡ state.inserts
obeyed_off agreed header state fields =
    responded_off agreed header (fields_obeyed agreed state fields) (fields_obeyed agreed state fields).refused ∙ fields_off agreed state fields

-- ---- the keys that a run has

abbrev AreKeys : List Strike → Type 0
AreKeys [] = Unit {0}
AreKeys (by_key key ∷ keys) = AreKeys keys
AreKeys (by_stroke stroke ∷ keys) = ⊥

record IsPressing (running : TerminalRunning) : Type 0 where
  keys : AreKeys running.keys
  off : running.state.inserts ≡ false

abbrev IsPressingCourse : Course TerminalRunning → Type 0
IsPressingCourse (goes running) = IsPressing running
IsPressingCourse (finishes running) = IsPressing running
IsPressingCourse (fails why running) = Unit {0}

abbrev striking_typing : Typing → Typing
striking_typing typed = record { due = typed.due; running = striking typed.running }

-- keys in a run that strikes, and in one that presses
record SameTyping (x y : Typing) : Type 0 where
  is : x ≡ striking_typing y
  goes_on : IsPressing y.running

typing_same : (agreed : Agreed) (state : TerminalState) (keys : List Strike) → AreKeys keys → state.inserts ≡ false
    → SameTyping (typing agreed state (map as_stroke keys)) (typing agreed state keys)
typing_same agreed state [] are off = record { is = refl; goes_on = record { keys = tt; off = off } }
typing_same agreed state (by_stroke stroke ∷ keys) are off = absurd are
typing_same agreed state (by_key key ∷ keys) are off =
    by_lock (is_waiting state.terminal.lock)
    (typing_same agreed (typed_key agreed state (by_key key)).state keys are (typed_off agreed state key ∙ off))
  where
    by_lock : (t : Bool) → SameTyping (typing agreed (typed_key agreed state (by_key key)).state (map as_stroke keys)) (typing agreed (typed_key agreed state (by_key key)).state keys)
        → SameTyping
        (cond t (record { due = []; running = record { state = state; keys = map as_stroke (by_key key ∷ keys) } })
        (before (typed_key agreed state (by_stroke (stroke.Key key))).due (typing agreed (typed_key agreed state (by_stroke (stroke.Key key))).state (map as_stroke keys))))
        (cond t (record { due = []; running = record { state = state; keys = by_key key ∷ keys } })
        (before (typed_key agreed state (by_key key)).due (typing agreed (typed_key agreed state (by_key key)).state keys)))
    by_lock true later = record { is = refl; goes_on = record { keys = are; off = off } }
    by_lock false later = record {
      is = ap (λ (did : Doing). before did.due (typing agreed did.state (map as_stroke keys))) (typed_same agreed state key off)
          ∙ ap (before (typed_key agreed state (by_key key)).due) later.is;
      goes_on = later.goes_on;
    }

-- ---- one event

record SameLog (x y : Log TerminalRunning) : Type 0 where
  is : x ≡ striking_log y
  goes_on : IsPressingCourse y.course

failed_same : (why : RunFault) (running : TerminalRunning) → SameLog (failed why (striking running)) (failed why running)
failed_same why running = record { is = refl; goes_on = tt }

going_same : (due : List ℕ) (running : TerminalRunning) → IsPressing running → SameLog (going due (striking running)) (going due running)
going_same due running pressing = record { is = refl; goes_on = pressing }

test_same : (t : Bool) (a b c d : Log TerminalRunning) → SameLog a c → SameLog b d → SameLog (cond t a b) (cond t c d)
test_same true a b c d p q = p
test_same false a b c d p q = q

stands_same : (t : Bool) (due : List ℕ) (running : TerminalRunning) → IsPressing running
    → SameLog (cond t (finished due (striking running)) (going due (striking running))) (cond t (finished due running) (going due running))
stands_same true due running pressing = record { is = refl; goes_on = pressing }
stands_same false due running pressing = record { is = refl; goes_on = pressing }

standing_same : (typed : Typing) → IsPressing typed.running → SameLog (standing (striking_typing typed)) (standing typed)
standing_same typed pressing =
    let so = stands_same (typed.running.state.was_free && nat_eq (length typed.running.keys) 0) typed.due typed.running pressing in
    record {
      is = ap (λ (n : ℕ). cond (typed.running.state.was_free && nat_eq n 0) (finished typed.due (striking typed.running)) (going typed.due (striking typed.running)))
          (length-map typed.running.keys as_stroke) ∙ so.is;
      goes_on = so.goes_on;
    }

did_same : (agreed : Agreed) (running : TerminalRunning) (did : Doing) → did.state.inserts ≡ running.state.inserts → IsPressing running
    → SameLog (standing (then_typed agreed (striking running).keys did)) (standing (then_typed agreed running.keys did))
did_same agreed running did same pressing =
    let typed = typing_same agreed did.state running.keys pressing.keys (same ∙ pressing.off) in
    let stood = standing_same (then_typed agreed running.keys did) typed.goes_on in
    record { is = ap (λ (t : Typing). standing (before did.due t)) typed.is ∙ stood.is; goes_on = stood.goes_on }

data_same : (agreed : Agreed) (header : Header) (running : TerminalRunning) (bytes : List ℕ) → IsPressing running
    → SameLog (taken_data agreed header (striking running) bytes) (taken_data agreed header running bytes)
data_same agreed header running bytes pressing =
    did_same agreed running (received_data agreed header running.state bytes) (received_off agreed header running.state bytes) pressing

passed_same : (running : TerminalRunning) → IsPressing running → SameLog (passed_over (striking running)) (passed_over running)
passed_same running pressing = record { is = refl; goes_on = record { keys = pressing.keys; off = pressing.off } }

data_type_same : (agreed : Agreed) (header : Header) (running : TerminalRunning) (bytes : List ℕ) (data_type : DataType) → IsPressing running
    → SameLog (taken_typed agreed header (striking running) bytes data_type) (taken_typed agreed header running bytes data_type)
data_type_same agreed header running bytes Data3270 pressing = data_same agreed header running bytes pressing
data_type_same agreed header running bytes Response pressing = passed_same running pressing
data_type_same agreed header running bytes ScsData pressing = passed_same running pressing
data_type_same agreed header running bytes BindImage pressing = passed_same running pressing
data_type_same agreed header running bytes Unbind pressing = passed_same running pressing
data_type_same agreed header running bytes NvtData pressing = passed_same running pressing
data_type_same agreed header running bytes Request pressing = passed_same running pressing
data_type_same agreed header running bytes SscpLuData pressing = passed_same running pressing
data_type_same agreed header running bytes PrintEoj pressing = passed_same running pressing

headed_same : (agreed : Agreed) (running : TerminalRunning) (headed : Result Headed HeaderFault) → IsPressing running
    → SameLog (taken_headed agreed (striking running) headed) (taken_headed agreed running headed)
headed_same agreed running (Ok headed) pressing = data_type_same agreed headed.header running headed.rest headed.header.data_type pressing
headed_same agreed running (Err why) pressing = failed_same (faults.Header why) running

-- the same at a tolerant terminal

state_same : (due : List ℕ) (running : TerminalRunning) (state : TerminalState) → state.inserts ≡ running.state.inserts → IsPressing running
    → SameLog (going due (record (striking running) { state = state })) (going due (record running { state = state }))
state_same due running state same pressing = record { is = refl; goes_on = record { keys = pressing.keys; off = same ∙ pressing.off } }

dropped_inserts : (t : Bool) (state : TerminalState)
    → (cond t (record state { drops = false }) (record state { drops = false; ignored = one_more state.ignored })).inserts ≡ state.inserts
dropped_inserts true state = refl
dropped_inserts false state = refl

obeyed_same : (agreed : Agreed) (header : Header) (running : TerminalRunning) (bytes : List ℕ) (fields : Option (List Field)) → IsPressing running
    → SameLog (tolerated_fields agreed header (striking running) bytes fields) (tolerated_fields agreed header running bytes fields)
obeyed_same agreed header running bytes None pressing = data_same agreed header running bytes pressing
obeyed_same agreed header running bytes (Some fields) pressing =
    did_same agreed running (obeyed agreed header running.state fields) (obeyed_off agreed header running.state fields) pressing

empty_same : (agreed : Agreed) (header : Header) (running : TerminalRunning) (bytes : List ℕ) → IsPressing running
    → SameLog (tolerated_data agreed header (striking running) bytes) (tolerated_data agreed header running bytes)
empty_same agreed header running bytes pressing =
    test_same (nat_eq (length bytes) 0) (goes_with (positive agreed header) (striking running) (one_passed running.state)) (tolerated_fields agreed header (striking running) bytes (fields_in bytes))
    (goes_with (positive agreed header) running (one_passed running.state)) (tolerated_fields agreed header running bytes (fields_in bytes))
    (state_same (positive agreed header) running (one_passed running.state) refl pressing) (obeyed_same agreed header running bytes (fields_in bytes) pressing)

tolerated_type_same : (agreed : Agreed) (header : Header) (running : TerminalRunning) (bytes : List ℕ) (data_type : DataType) → IsPressing running
    → SameLog (tolerated_typed agreed header (striking running) bytes data_type) (tolerated_typed agreed header running bytes data_type)
tolerated_type_same agreed header running bytes Data3270 pressing = empty_same agreed header running bytes pressing
tolerated_type_same agreed header running bytes Response pressing = state_same [] running (one_passed running.state) refl pressing
tolerated_type_same agreed header running bytes ScsData pressing = state_same [] running (one_passed running.state) refl pressing
tolerated_type_same agreed header running bytes BindImage pressing = state_same [] running (one_passed running.state) refl pressing
tolerated_type_same agreed header running bytes Unbind pressing = state_same [] running (one_passed running.state) refl pressing
tolerated_type_same agreed header running bytes NvtData pressing = state_same [] running (noting running.state bytes) refl pressing
tolerated_type_same agreed header running bytes Request pressing = state_same [] running (one_passed running.state) refl pressing
tolerated_type_same agreed header running bytes SscpLuData pressing = state_same [] running (one_passed running.state) refl pressing
tolerated_type_same agreed header running bytes PrintEoj pressing = state_same [] running (one_passed running.state) refl pressing

tolerated_head_same : (agreed : Agreed) (running : TerminalRunning) (headed : Result Headed HeaderFault) → IsPressing running
    → SameLog (tolerated_headed agreed (striking running) headed) (tolerated_headed agreed running headed)
tolerated_head_same agreed running (Ok headed) pressing = tolerated_type_same agreed headed.header running headed.rest headed.header.data_type pressing
tolerated_head_same agreed running (Err why) pressing = state_same [] running (one_passed running.state) refl pressing

tolerated_same : (agreed : Agreed) (running : TerminalRunning) (bytes : List ℕ) → IsPressing running
    → SameLog (tolerated agreed (striking running) bytes) (tolerated agreed running bytes)
tolerated_same agreed running bytes pressing =
    test_same running.state.drops (goes_with [] (striking running) (dropped running.state bytes))
    (cond agreed.enhanced (tolerated_headed agreed (striking running) (header_of bytes)) (tolerated_data agreed (data_header 0 0) (striking running) bytes))
    (goes_with [] running (dropped running.state bytes))
    (cond agreed.enhanced (tolerated_headed agreed running (header_of bytes)) (tolerated_data agreed (data_header 0 0) running bytes))
    (state_same [] running (dropped running.state bytes) (dropped_inserts (nat_eq (length bytes) 0) running.state) pressing)
    (test_same agreed.enhanced (tolerated_headed agreed (striking running) (header_of bytes)) (tolerated_data agreed (data_header 0 0) (striking running) bytes)
    (tolerated_headed agreed running (header_of bytes)) (tolerated_data agreed (data_header 0 0) running bytes)
    (tolerated_head_same agreed running (header_of bytes) pressing) (empty_same agreed (data_header 0 0) running bytes pressing))

record_same : (running : TerminalRunning) (agreed : Option Agreed) (bytes : List ℕ) → IsPressing running
    → SameLog (taken_record (striking running) agreed bytes) (taken_record running agreed bytes)
record_same running None bytes pressing = state_same [] running (one_ignored running.state) refl pressing
record_same running (Some agreed) bytes pressing =
    test_same (is_tolerant running.state.core) (tolerated agreed (striking running) bytes) (strictly_taken agreed (striking running) bytes)
    (tolerated agreed running bytes) (strictly_taken agreed running bytes)
    (tolerated_same agreed running bytes pressing)
    (test_same agreed.enhanced (taken_headed agreed (striking running) (header_of bytes)) (taken_data agreed (data_header 0 0) (striking running) bytes)
    (taken_headed agreed running (header_of bytes)) (taken_data agreed (data_header 0 0) running bytes)
    (headed_same agreed running (header_of bytes) pressing) (data_same agreed (data_header 0 0) running bytes pressing))

cored_pressing : (running : TerminalRunning) (core : EndCore) → IsPressing running → IsPressing (with_core running core)
cored_pressing running core pressing = record { keys = pressing.keys; off = pressing.off }

dropping_inserts : (told : Meant) (state : TerminalState) → (dropping told state).inserts ≡ state.inserts
dropping_inserts (means_ready agreed) state = refl
dropping_inserts means_nothing state = refl
dropping_inserts means_record state = refl

anew_inserts : (t : Bool) (state anew : TerminalState) → anew.inserts ≡ state.inserts → (cond t state anew).inserts ≡ state.inserts
anew_inserts true state anew same = refl
anew_inserts false state anew same = same

fitted_inserts : (device : Device) (state : TerminalState) → (fitted device state).inserts ≡ state.inserts
fitted_inserts device state =
    anew_inserts (same_size state.terminal.geometry.alternate (alternate_of device.model)) state (renewed device state) refl

heeding_inserts : (core : EndCore) (told : Meant) (state : TerminalState) → (heeding core told state).inserts ≡ state.inserts
heeding_inserts (Strict core) told state = refl
heeding_inserts (Tolerant core) told state = fitted_inserts core.core.device (dropping told state) ∙ dropping_inserts told state

stepped_same : (running : TerminalRunning) (event : Told) (step : Stepped EndCore) → IsPressing running
    → SameLog (stepped (striking running) event step) (stepped running event step)
stepped_same running (told_record bytes) step pressing = record_same (with_core running step.core) (core_agreed step.core) bytes (cored_pressing running step.core pressing)
stepped_same running (told_verb verb option) step pressing = state_same _ running (heeding step.core step.told (cored running.state (told_verb verb option) step.core))
    (heeding_inserts step.core step.told (cored running.state (told_verb verb option) step.core)) pressing
stepped_same running (told_sub option parameters) step pressing = state_same _ running (heeding step.core step.told (cored running.state (told_sub option parameters) step.core))
    (heeding_inserts step.core step.told (cored running.state (told_sub option parameters) step.core)) pressing
stepped_same running (told_passed byte) step pressing = state_same _ running (heeding step.core step.told (cored running.state (told_passed byte) step.core))
    (heeding_inserts step.core step.told (cored running.state (told_passed byte) step.core)) pressing

core_same : (running : TerminalRunning) (event : Told) (step : Result (Stepped EndCore) SessionFault) → IsPressing running
    → SameLog (by_core (striking running) event step) (by_core running event step)
core_same running event (Ok step) pressing = stepped_same running event step pressing
core_same running event (Err why) pressing = failed_same (faults.Session why) running

act_same : (running : TerminalRunning) (event : Told) → IsPressing running → SameLog (terminal_act (striking running) event) (terminal_act running event)
act_same running event pressing = core_same running event (core_step running.state.core event) pressing

-- ---- all events

on_same : (course : Course TerminalRunning) (due : List ℕ) (events : List Told) → IsPressingCourse course
    → ((next : TerminalRunning) → IsPressing next → log_of terminal_act (striking next) events ≡ striking_log (log_of terminal_act next events))
    → log_on due (striking_course course) (λ next. log_of terminal_act next events) ≡ striking_log (log_on due course (λ next. log_of terminal_act next events))
on_same (goes next) due events pressing later =
    ap (λ (l : Log TerminalRunning). log_on due (goes (striking next)) (λ _. l)) (later next pressing)
on_same (finishes end) due events pressing later = refl
on_same (fails why end) due events pressing later = refl

log_same : (running : TerminalRunning) (events : List Told) → IsPressing running
    → log_of terminal_act (striking running) events ≡ striking_log (log_of terminal_act running events)
log_same running [] pressing = refl
log_same running (event ∷ events) pressing =
    let here = act_same running event pressing in
    ap (λ (l : Log TerminalRunning). log_on l.due l.course (λ next. log_of terminal_act next events)) here.is
    ∙ on_same (terminal_act running event).course (terminal_act running event).due events here.goes_on (λ next on. log_same next events on)

are_keys : (keys : List Key) → AreKeys (map by_key keys)
are_keys [] = tt
are_keys (key ∷ keys) = are_keys keys

struck_keys : (keys : List Key) → map (λ key. by_stroke (stroke.Key key)) keys ≡ map as_stroke (map by_key keys)
struck_keys [] = refl
struck_keys (key ∷ keys) = ap (λ z. by_stroke (stroke.Key key) ∷ z) (struck_keys keys)

pub runs_of_keys_agree : RunsOfKeysAgree
runs_of_keys_agree device enhanced responses keys events =
    ap (λ z. log_of terminal_act (terminal_start device enhanced responses z) events) (struck_keys keys)
    ∙ log_same (terminal_start device enhanced responses (map by_key keys)) events (record { keys = are_keys keys; off = refl })
