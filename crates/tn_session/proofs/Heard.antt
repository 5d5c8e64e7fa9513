-- A terminal that somebody works hears an event as a run without keys does, and is never over.
use Rattle.std.proofs.Common.{◌≡◌, ℕ, List, [], ◌∷◌, Ok, Err, refl, sym, ap, subst}
use Rattle.std.specs.Prelude.{Result, IfOk}
use Rattle.tn_wire.specs.Stream.{Told}
use Rattle.tn_session.specs.declared.fault.RunFault.{RunFault}
use Rattle.tn_session.specs.declared.fault.RunFault.TheVariants.{Wire, Header, Session, Inbound, Bind, OutOfMemory}
use Rattle.tn_session.specs.declared.pressed.Pressed.{Pressed}
use Rattle.tn_session.specs.declared.progress.Progress.{Progress}
use Rattle.tn_session.specs.declared.progress.Progress.TheVariants.{More, Done}
use Rattle.tn_session.specs.declared.terminal_state.TerminalState.{TerminalState}
use Rattle.tn_session.specs.declared.turn.Turn.{Turn}
use Rattle.tn_session.specs.declared.turn.Turn.TheVariants as turns
use Rattle.tn_session.specs.OneLog.{waits, is_over, has_failed, is_at_fault}
use Rattle.tn_session.specs.Ran.{Cause, of_stream, of_memory, of_line, of_reads, of_end, of_events, MayAsk, FailsAs, Does}
use Rattle.tn_session.specs.Runs.{Course, goes, finishes, fails, Log, going, log_on, log_of}
use Rattle.tn_session.specs.Talk.{Talk, stands, starved, failed_talk, Hears, Takes}
use Rattle.tn_session.specs.Strikes.{Strike}
use Rattle.tn_session.specs.TerminalLog.{TerminalRunning, terminal_act}
use Rattle.tn_session.specs.TerminalTalk.{without_keys, unkeyed, heard_act, PressesKey, Presses, IsNotOver}

abbrev bare : TerminalState → Told → Log TerminalRunning
bare state event = terminal_act (record { state = state; keys = [] }) event

pub heard_goes : (state new : TerminalState) (keys : List Strike) (event : Told) (due : List ℕ) (turn : Turn)
    → Does (bare state event) (Ok turn) (record { state = new; keys = keys }) due → heard_act state event ≡ going due new
heard_goes state new keys event due turns.Goes does = ap unkeyed does
heard_goes state new keys event due turns.Finishes does = ap unkeyed does

may_ask : (c : Course TerminalRunning) → MayAsk c → MayAsk (without_keys c)
may_ask (goes running) asks = tt
may_ask (finishes running) asks = tt
may_ask (fails why running) asks = absurd asks

pub heard_fails : (state new : TerminalState) (keys : List Strike) (event : Told) (why : RunFault) (cause : Cause)
    → FailsAs (bare state event) why (record { state = new; keys = keys }) cause → FailsAs (heard_act state event) why new cause
heard_fails state new keys event why of_memory asks = may_ask (bare state event).course asks
heard_fails state new keys event why of_events is = ap unkeyed is
heard_fails state new keys event why (of_stream fault) is = absurd is
heard_fails state new keys event why of_line is = absurd is
heard_fails state new keys event why of_reads is = absurd is
heard_fails state new keys event why of_end is = absurd is

-- ---- no event ends a session well

never_finished : (c : Course TerminalRunning) (end : TerminalState) → without_keys c ≡ finishes end → ⊥
never_finished (goes running) end is = let clash : goes running.state ≡ finishes end = is in absurd cc
never_finished (finishes running) end is = let clash : goes running.state ≡ finishes end = is in absurd cc
never_finished (fails why running) end is = let clash : ◌≡◌ {A = Course TerminalState} (fails why running.state) (finishes end) = is in absurd cc

on_never : (d : List ℕ) (c : Course TerminalRunning) (later : TerminalState → Log TerminalState) (end : TerminalState)
    → ((next : TerminalState) → (later next).course ≡ finishes end → ⊥) → (log_on d (without_keys c) later).course ≡ finishes end → ⊥
on_never d (goes running) later end never is = never running.state is
on_never d (finishes running) later end never is = never running.state is
on_never d (fails why running) later end never is = never_finished (fails why running) end is

log_never : (events : List Told) (state end : TerminalState) → (log_of heard_act state events).course ≡ finishes end → ⊥
log_never [] state end is = let clash : goes state ≡ finishes end = is in absurd cc
log_never (event ∷ events) state end is =
    on_never (bare state event).due (bare state event).course (λ next. log_of heard_act next events) end (λ next. log_never events next end) is

failed_not_over : (why : RunFault) (state : TerminalState) → IsNotOver (failed_talk why state)
failed_not_over (Wire why) state = tt
failed_not_over (Header why) state = tt
failed_not_over (Session why) state = tt
failed_not_over (Inbound why) state = tt
failed_not_over (Bind why) state = tt
failed_not_over OutOfMemory state = tt

-- what a call leaves and answers
abbrev pub GoesOnSo : Result Progress RunFault → Talk TerminalState → Type 0
GoesOnSo result new = IsNotOver new × IfOk result (λ progress. progress ≡ More)

hears_on : (state : TerminalState) (left piece : List ℕ) (result : Result Progress RunFault) (given : List ℕ) (new : Talk TerminalState)
    → Hears heard_act left state piece result given new → GoesOnSo result new
hears_on state left piece (Ok More) given new (next, rest, log, is) = (subst IsNotOver (sym is) tt, refl)
hears_on state left piece (Ok (Done taken)) given new (end, few, e, is) =
    absurd (log_never e.ends.events state end (ap (λ (log : Log TerminalState). log.course) e.ends.log))
hears_on state left piece (Err why) given new (end, went, is) = (subst IsNotOver (sym is) (failed_not_over why end), tt)

err_on : (why : RunFault) (result : Result Progress RunFault) → result ≡ Err why → IfOk result (λ progress. progress ≡ More)
err_on why result is = subst (λ r. IfOk r (λ progress. progress ≡ More)) (sym is) tt

pub takes_on : (old : Talk TerminalState) (piece : List ℕ) (result : Result Progress RunFault) (given : List ℕ) (new : Talk TerminalState)
    → IsNotOver old → Takes heard_act old piece result given new → GoesOnSo result new
takes_on (stands (waits state left)) piece result given new not_over takes = hears_on state left piece result given new takes
takes_on (stands (is_over end)) piece result given new not_over takes = absurd not_over
takes_on (stands (has_failed why state)) piece result given new not_over takes = (subst IsNotOver (sym takes.2) tt, err_on why result takes.0)
takes_on (stands (is_at_fault fault state)) piece result given new not_over takes = (subst IsNotOver (sym takes.2) tt, err_on (Wire fault) result takes.0)
takes_on starved piece result given new not_over takes = (subst IsNotOver (sym takes.2) tt, err_on OutOfMemory result takes.0)

-- ---- a key

waits_on : (state : TerminalState) (left : List ℕ) (key : Strike) (result : Result Pressed RunFault) (given : List ℕ) (new : Talk TerminalState)
    → PressesKey state left key result given new → IsNotOver new
waits_on state left key (Ok answer) given new (answer_is, due, is) = subst IsNotOver (sym is) tt
waits_on state left key (Err why) given new (why_is, none, sends, is) = subst IsNotOver (sym is) tt

pub presses_on : (old : Talk TerminalState) (key : Strike) (result : Result Pressed RunFault) (given : List ℕ) (new : Talk TerminalState)
    → IsNotOver old → Presses old key result given new → IsNotOver new
presses_on (stands (waits state left)) key result given new not_over presses = waits_on state left key result given new presses
presses_on (stands (is_over end)) key result given new not_over presses = absurd not_over
presses_on (stands (has_failed why state)) key result given new not_over presses = subst IsNotOver (sym presses.2) tt
presses_on (stands (is_at_fault fault state)) key result given new not_over presses = subst IsNotOver (sym presses.2) tt
presses_on starved key result given new not_over presses = subst IsNotOver (sym presses.2) tt
