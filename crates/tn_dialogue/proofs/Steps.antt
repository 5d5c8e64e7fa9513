-- What a host's core makes of an event, and what its session then does.
use Rattle.std.proofs.Common.{◌≡◌, ℕ, List, [], Ok, Err, refl, sym, subst, ◌∙◌, ap}
use Rattle.std.specs.Prelude.{Result}
use Rattle.std.specs.Borrow.{Bor}
use Rattle.tn_wire.specs.declared.event.Event.{Event as EventValue}
use Rattle.tn_wire.specs.declared.event.Event.TheVariants.{Record as RecordEvent, Verb as VerbEvent, Sub as SubEvent, Passed as PassedEvent}
use Rattle.tn_wire.specs.Calls.{told_of}
use Rattle.tn_wire.specs.Stream.{Told, told_record}
use Rattle.tn_cores.specs.declared.host.HostCore.{HostCore}
use Rattle.tn_cores.specs.declared.session.SessionFault.{SessionFault}
use Rattle.tn_cores.specs.declared.session.Told.{Told as Means}
use Rattle.tn_cores.specs.Host.{host_agreed}
use Rattle.tn_cores.specs.Replies.{bytes_of}
use Rattle.tn_cores.specs.Steps.{Stepped, Takes, host_step}
use Rattle.tn_session.specs.declared.fault.RunFault.{RunFault}
use Rattle.tn_session.specs.declared.fault.RunFault.TheVariants as faults
use Rattle.tn_session.specs.Ran.{Cause, of_stream, of_memory, of_line, of_reads, of_end, of_events, FailsAs}
use Rattle.tn_session.specs.Runs.{Log}
use Rattle.tn_session.specs.Talk.{EventFails}
use Rattle.tn_dialogue.specs.declared.turn.Turn.{Turn}
use Rattle.tn_dialogue.specs.Dialogue.{Running, stopped, taken_record, meant, by_core, dialogue_act}
use Rattle.tn_dialogue.specs.DialogueTalk.{Does}

refused : {Core : Type 0} (step : Result (Stepped Core) SessionFault) (old new : Core) (why : SessionFault) (out : List ℕ) → Takes step old (Err why) new out → (step ≡ Err why) × (new ≡ old)
refused (Ok s) old new why out (is, core, reply) = absurd cc
refused (Err w) old new why out (is, core, reply) = (cc, core)

-- the step that was taken
record WasTaken {Core : Type 0} (step : Result (Stepped Core) SessionFault) (told : Means) (new : Core) : Type 0 where
  stepped : Stepped Core
  is : step ≡ Ok stepped
  tells : told ≡ stepped.told
  core : new ≡ stepped.core

taken : {Core : Type 0} (step : Result (Stepped Core) SessionFault) (old new : Core) (told : Means) (out : List ℕ) → Takes step old (Ok told) new out → WasTaken step told new
taken (Ok s) old new told out (is, core, reply) = record { stepped = s; is = refl; tells = cc; core = core }
taken (Err w) old new told out (is, core, reply) = absurd cc

-- a refusal leaves the session as it was, but for the fault
stops_act : (running now : Running) (event : Told) (why : SessionFault) → host_step running.core event ≡ Err why → now ≡ running
    → dialogue_act running event ≡ stopped now (faults.Session why)
stops_act running now event why is same = rw (is, same) refl

pub host_stops : (running now : Running) (core new_core : HostCore) (event : Told) (why : SessionFault) (due out : List ℕ) (turn : Turn) (new : Running)
    → running.core ≡ core → Takes (host_step core event) core (Err why) new_core out → now ≡ record running { core = new_core } → due ≡ []
    → Does (stopped now (faults.Session why)) (Ok turn) new [] → Does (dialogue_act running event) (Ok turn) new due
host_stops running now core new_core event why due out turn new same_core takes same none does =
    let kept = refused (host_step core event) core new_core why out takes in
    let is : host_step running.core event ≡ Err why = ap (λ c. host_step c event) same_core ∙ kept.0 in
    let as_before : now ≡ running = same ∙ ap (λ c. record running { core = c }) (kept.1 ∙ sym same_core) in
    let acts : dialogue_act running event ≡ stopped now (faults.Session why) = stops_act running now event why is as_before in
    subst (λ d. Does (dialogue_act running event) (Ok turn) new d) (sym none) (subst (λ l. Does l (Ok turn) new []) (sym acts) does)

-- a record that the core takes
record_act : (running now : Running) (bytes : List ℕ) (stepped : Stepped HostCore) → host_step running.core (told_record bytes) ≡ Ok stepped → now ≡ record running { core = stepped.core }
    → dialogue_act running (told_record bytes) ≡ taken_record now (host_agreed now.core) bytes
record_act running now bytes stepped is same = rw (is, same) refl

pub host_records : (running now : Running) (core new_core : HostCore) (event : Told) (bytes due : List ℕ) (told : Means) (out : List ℕ) (result : Result Turn RunFault) (new : Running)
    → event ≡ told_record bytes → running.core ≡ core → Takes (host_step core event) core (Ok told) new_core out → now ≡ record running { core = new_core }
    → Does (taken_record now (host_agreed now.core) bytes) result new due → Does (dialogue_act running event) result new due
host_records running now core new_core event bytes due told out result new named same_core takes same does =
    let step = taken (host_step core event) core new_core told out takes in
    let is : host_step running.core (told_record bytes) ≡ Ok step.stepped = ap (λ e. host_step running.core e) (sym named) ∙ ap (λ c. host_step c event) same_core ∙ step.is in
    let act : dialogue_act running (told_record bytes) ≡ taken_record now (host_agreed now.core) bytes =
    record_act running now bytes step.stepped is (same ∙ ap (λ c. record running { core = c }) step.core) in
    let acts : dialogue_act running event ≡ taken_record now (host_agreed now.core) bytes = ap (dialogue_act running) named ∙ act in
    rw acts does

-- an event that is no record, and what the core's word asks for
meant_act : (running now : Running) (event : EventValue) (stepped : Stepped HostCore) → ((bytes : Bor (List ℕ)) → event ≡ RecordEvent bytes → ⊥)
    → host_step running.core (told_of event) ≡ Ok stepped → now ≡ record running { core = stepped.core }
    → dialogue_act running (told_of event) ≡ meant now (bytes_of stepped.reply) stepped.told
meant_act running now (RecordEvent bytes) stepped other is same = absurd (other bytes refl)
meant_act running now (VerbEvent verb option) stepped other is same =
    ap (by_core running (told_of (VerbEvent verb option))) is ∙ ap (λ n. meant n (bytes_of stepped.reply) stepped.told) (sym same)
meant_act running now (SubEvent option parameters) stepped other is same =
    ap (by_core running (told_of (SubEvent option parameters))) is ∙ ap (λ n. meant n (bytes_of stepped.reply) stepped.told) (sym same)
meant_act running now (PassedEvent b) stepped other is same =
    ap (by_core running (told_of (PassedEvent b))) is ∙ ap (λ n. meant n (bytes_of stepped.reply) stepped.told) (sym same)

told_reply : (step : Result (Stepped HostCore) SessionFault) (old new : HostCore) (told : Means) (out : List ℕ) → Takes step old (Ok told) new out
    → (s : Stepped HostCore) × (step ≡ Ok s) × (told ≡ s.told) × (new ≡ s.core) × (out ≡ bytes_of s.reply)
told_reply (Ok s) old new told out (is, core, reply) = (s, refl, cc, core, reply)
told_reply (Err w) old new told out (is, core, reply) = absurd cc

pub host_means : (running now : Running) (core new_core : HostCore) (event : EventValue) (told : Means) (out due end : List ℕ) (result : Result Turn RunFault) (new : Running)
    → ((bytes : Bor (List ℕ)) → event ≡ RecordEvent bytes → ⊥) → running.core ≡ core → Takes (host_step core (told_of event)) core (Ok told) new_core out
    → now ≡ record running { core = new_core } → due ≡ out → Does (meant now due told) result new end → Does (dialogue_act running (told_of event)) result new end
host_means running now core new_core event told out due end result new other same_core takes same given does =
    let step = told_reply (host_step core (told_of event)) core new_core told out takes in
    let is : host_step running.core (told_of event) ≡ Ok step.0 = ap (λ c. host_step c (told_of event)) same_core ∙ step.1 in
    let acts : dialogue_act running (told_of event) ≡ meant now (bytes_of step.0.reply) step.0.told =
    meant_act running now event step.0 other is (same ∙ ap (λ c. record running { core = c }) step.3) in
    let words : meant now due told ≡ meant now (bytes_of step.0.reply) step.0.told = ap (λ d. meant now d told) (given ∙ step.4) ∙ ap (meant now (bytes_of step.0.reply)) step.2 in
    subst (λ l. Does l result new end) (words ∙ sym acts) does

-- what fails gives nothing
pub event_fails : {State : Type 0} (log : Log State) (why : RunFault) (new : State) (cause : Cause) → FailsAs log why new cause
    → EventFails log why [] new cause
event_fails log why new of_memory fails = (fails, refl)
event_fails log why new of_events fails = (fails, refl)
event_fails log why new (of_stream fault) fails = absurd fails
event_fails log why new of_line fails = absurd fails
event_fails log why new of_reads fails = absurd fails
event_fails log why new of_end fails = absurd fails
