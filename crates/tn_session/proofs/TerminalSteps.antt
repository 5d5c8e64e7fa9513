-- What a step of the terminal's core makes of its run.
use Rattle.std.proofs.Common.{◌≡◌, ℕ, List, sym, ◌∙◌, ap, Ok, Err}
use Rattle.std.specs.Prelude.{Option, Result}
use Rattle.tn_wire.specs.Stream.{Told as Event, told_record, told_verb, told_sub, told_passed}
use Rattle.tn_cores.specs.declared.session.Told.{Told}
use Rattle.tn_cores.specs.declared.session.SessionFault.{SessionFault}
use Rattle.tn_cores.specs.Replies.{bytes_of}
use Rattle.tn_cores.specs.Steps.{Stepped, terminal_step, Takes}
use Rattle.tn_cores.proofs.ReplyLaws.{terminal_refuses}
use Rattle.tn_session.specs.declared.end_core.EndCore.{EndCore}
use Rattle.tn_session.specs.declared.end_core.EndCore.TheVariants.{Strict, Tolerant}
use Rattle.tn_session.specs.declared.fault.RunFault.{RunFault}
use Rattle.tn_session.specs.EndCores.{core_step, core_agreed, as_stepped}
use Rattle.tn_session.specs.declared.fault.RunFault.TheVariants as faults
use Rattle.tn_session.specs.declared.terminal_state.TerminalState.{TerminalState}
use Rattle.tn_session.specs.Runs.{Log, failed, going}
use Rattle.tn_session.specs.Ran.{Cause, of_stream, of_memory, of_line, of_reads, of_end, of_events, IsOfEvents, session_cause, FailsAs}
use Rattle.tn_session.specs.LuNames.{core_grants, name_kept}
use Rattle.tn_session.specs.TerminalLog.{TerminalRunning, terminal_act, by_core, taken_record, with_core, cored, heeding, heeded}
use Rattle.tn_session.proofs.CoreFaults.{of_event}

-- a core that refused did so by its table
pub refused_by : {Core : Type 0} (x : Result (Stepped Core) SessionFault) (old new : Core) (why : SessionFault) (out : List ℕ) → Takes x old (Err why) new out → x ≡ Err why
refused_by (Ok step) old new why out (is, after, bytes) = absurd cc
refused_by (Err other) old new why out (is, after, bytes) = let same : why ≡ other = cc in ap Err (sym same)

-- the log fails for what an event says
pub fails_as : {State : Type 0} (log : Log State) (why : RunFault) (new : State) (cause : Cause) → IsOfEvents cause → log ≡ failed why new
    → FailsAs log why new cause
fails_as log why new of_events h is = is
fails_as log why new (of_stream fault) h is = absurd h
fails_as log why new of_memory h is = absurd h
fails_as log why new of_line h is = absurd h
fails_as log why new of_reads h is = absurd h
fails_as log why new of_end h is = absurd h

-- a step of a core that is wrapped
pub wrapped : {A : Type 0} {B : Type 0} (wrap : A → B) (x : Result (Stepped A) SessionFault) (old new : A) (told : Result Told SessionFault) (out : List ℕ)
    → Takes x old told new out → Takes (as_stepped wrap x) (wrap old) told (wrap new) out
wrapped wrap (Ok step) old new told out (is, after, bytes) = (is, ap wrap after, bytes)
wrapped wrap (Err why) old new told out (is, after, bytes) = (is, ap wrap after, bytes)

unwrapped : {A : Type 0} {B : Type 0} (wrap : A → B) (x : Result (Stepped A) SessionFault) (why : SessionFault) → as_stepped wrap x ≡ Err why → x ≡ Err why
unwrapped wrap (Ok step) why is = absurd cc
unwrapped wrap (Err other) why is = let same : other ≡ why = cc in ap Err same

core_refuses : (core : EndCore) (event : Event) (why : SessionFault) → core_step core event ≡ Err why → IsOfEvents (session_cause why)
core_refuses (Strict core) event why is = of_event why (terminal_refuses core event why (unwrapped Strict (terminal_step core event) why is))
core_refuses (Tolerant core) event why is = absurd cc

-- a core that refused is as before, and so is the run
same_core : {Core : Type 0} (x : Result (Stepped Core) SessionFault) (old new : Core) (why : SessionFault) (out : List ℕ) → Takes x old (Err why) new out
    → new ≡ old
same_core (Ok step) old new why out (is, after, bytes) = absurd cc
same_core (Err other) old new why out (is, after, bytes) = after

pub refused_act : (running : TerminalRunning) (event : Event) (new : EndCore) (why : SessionFault) (out : List ℕ)
    → Takes (core_step running.state.core event) running.state.core (Err why) new out
    → FailsAs (terminal_act running event) (faults.Session why) (with_core running new) (session_cause why)
refused_act running event new why out takes =
    let step : core_step running.state.core event ≡ Err why = refused_by _ running.state.core new why out takes in
    let same : new ≡ running.state.core = same_core _ running.state.core new why out takes in
    fails_as (terminal_act running event) (faults.Session why) (with_core running new) (session_cause why) (core_refuses running.state.core event why step)
    (ap (by_core running event) step ∙ ap (λ (core : EndCore). failed (faults.Session why) (with_core running core)) (sym same))

record_by : (running : TerminalRunning) (new : EndCore) (told : Told) (out bytes : List ℕ) (x : Result (Stepped EndCore) SessionFault)
    → Takes x running.state.core (Ok told) new out
    → by_core running (told_record bytes) x ≡ taken_record (with_core running new) (core_agreed new) bytes
record_by running new told out bytes (Err why) (is, after, written) = absurd cc
record_by running new told out bytes (Ok step) (is, after, written) =
    ap (λ (core : EndCore). taken_record (with_core running core) (core_agreed core) bytes) (sym after)

pub record_act : (running : TerminalRunning) (new : EndCore) (told : Told) (out bytes : List ℕ)
    → Takes (core_step running.state.core (told_record bytes)) running.state.core (Ok told) new out
    → terminal_act running (told_record bytes) ≡ taken_record (with_core running new) (core_agreed new) bytes
record_act running new told out bytes takes = record_by running new told out bytes (core_step running.state.core (told_record bytes)) takes

same_told : {a b : Told} → ◌≡◌ {A = Result Told SessionFault} (Ok a) (Ok b) → a ≡ b
same_told e = cc

heeded_so : (running : TerminalRunning) (event : Event) (new : EndCore) (told : Told) (out : List ℕ) (step : Stepped EndCore)
    → ◌≡◌ {A = Result Told SessionFault} (Ok told) (Ok step.told) → new ≡ step.core → out ≡ bytes_of step.reply
    → going (bytes_of step.reply) (heeded running event step) ≡ going out (record running { state = heeding new told (cored running.state event new) })
heeded_so running event new told out step is after written =
    ap (λ (z : List ℕ). going z (heeded running event step)) (sym written)
    ∙ ap (λ (core : EndCore). going out (record running { state = heeding core step.told (cored running.state event core) })) (sym after)
    ∙ ap (λ (t : Told). going out (record running { state = heeding new t (cored running.state event new) })) (sym (same_told is))

-- an event that is no record
abbrev pub IsOther : Event → Type 0
IsOther (told_record bytes) = ⊥
IsOther event = Unit {0}

other_by : (running : TerminalRunning) (event : Event) (new : EndCore) (told : Told) (out : List ℕ) (x : Result (Stepped EndCore) SessionFault) → IsOther event
    → Takes x running.state.core (Ok told) new out
    → by_core running event x ≡ going out (record running { state = heeding new told (cored running.state event new) })
other_by running (told_record bytes) new told out x other takes = absurd other
other_by running event new told out (Err why) other (is, after, written) = absurd cc
other_by running (told_verb verb option) new told out (Ok step) other (is, after, written) = heeded_so running (told_verb verb option) new told out step is after written
other_by running (told_sub option parameters) new told out (Ok step) other (is, after, written) = heeded_so running (told_sub option parameters) new told out step is after written
other_by running (told_passed byte) new told out (Ok step) other (is, after, written) = heeded_so running (told_passed byte) new told out step is after written

-- what another event makes of the run: the state is heeded, and the reply is due
pub other_does : (running : TerminalRunning) (event : Event) (core : EndCore) (told : Told) (out : List ℕ) (new : TerminalState) (due : List ℕ) → IsOther event
    → Takes (core_step running.state.core event) running.state.core (Ok told) core out
    → new ≡ heeding core told (cored running.state event core) → due ≡ out
    → terminal_act running event ≡ going due (record running { state = new })
other_does running event core told out new due other takes heeds is =
    other_by running event core told out (core_step running.state.core event) other takes
    ∙ ap (λ (s : TerminalState). going out (record running { state = s })) (sym heeds)
    ∙ ap (λ (z : List ℕ). going z (record running { state = new })) (sym is)

-- the name that was granted is noted
pub named_so : (state : TerminalState) (event : Event) (core : EndCore) (told : Told) (name : List ℕ) (granted : Option (List ℕ)) (new : TerminalState)
    → granted ≡ core_grants state.core event → name ≡ name_kept state.lu_name granted
    → new ≡ heeding core told (record state { core = core; lu_name = name }) → new ≡ heeding core told (cored state event core)
named_so state event core told name granted new grants is heeds =
    heeds ∙ ap (λ (n : List ℕ). heeding core told (record state { core = core; lu_name = n })) (is ∙ ap (name_kept state.lu_name) grants)
