-- What a host's core makes of an event, and what its run then does.
use Rattle.std.proofs.Common.{◌≡◌, ℕ, List, [], Ok, Err, refl, sym, ◌∙◌, ap}
use Rattle.std.specs.Prelude.{Result}
use Rattle.tn_wire.specs.Stream.{Told, told_record}
use Rattle.tn_cores.specs.declared.host.HostCore.{HostCore}
use Rattle.tn_cores.specs.declared.session.SessionFault.{SessionFault}
use Rattle.tn_cores.specs.declared.session.Told.{Told as Means}
use Rattle.tn_cores.specs.Host.{host_agreed}
use Rattle.tn_cores.specs.Steps.{Stepped, Takes, host_step}
use Rattle.tn_cores.proofs.ReplyLaws.{host_refuses}
use Rattle.tn_session.specs.declared.fault.RunFault.{RunFault}
use Rattle.tn_session.specs.declared.fault.RunFault.TheVariants as faults
use Rattle.tn_session.specs.declared.turn.Turn.{Turn}
use Rattle.tn_session.specs.HostLog.{HostRunning, taken_record, host_act}
use Rattle.tn_session.specs.Ran.{Cause, of_stream, of_memory, of_line, of_reads, of_end, of_events, IsOfEvents, session_cause, Does, FailsAs}
use Rattle.tn_session.specs.Runs.{Log, failed}
use Rattle.tn_session.proofs.CoreFaults.{of_event}

refused : {Core : Type 0} (step : Result (Stepped Core) SessionFault) (old new : Core) (why : SessionFault) (out : List ℕ) → Takes step old (Err why) new out → step ≡ Err why
refused (Ok s) old new why out (is, core, reply) = absurd cc
refused (Err w) old new why out (is, core, reply) = cc

-- the step that was taken
record WasTaken {Core : Type 0} (step : Result (Stepped Core) SessionFault) (told : Means) (new : Core) : Type 0 where
  stepped : Stepped Core
  is : step ≡ Ok stepped
  tells : told ≡ stepped.told
  core : new ≡ stepped.core

taken : {Core : Type 0} (step : Result (Stepped Core) SessionFault) (old new : Core) (told : Means) (out : List ℕ) → Takes step old (Ok told) new out → WasTaken step told new
taken (Ok s) old new told out (is, core, reply) = record { stepped = s; is = refl; tells = cc; core = core }
taken (Err w) old new told out (is, core, reply) = absurd cc

-- a core that refused is as before
as_before : {Core : Type 0} (step : Result (Stepped Core) SessionFault) (old new : Core) (why : SessionFault) (out : List ℕ) → Takes step old (Err why) new out
    → new ≡ old
as_before (Ok s) old new why out (is, core, reply) = absurd cc
as_before (Err w) old new why out (is, core, reply) = core

of_this : {State : Type 0} (log : Log State) (why : RunFault) (new : State) (cause : Cause) → IsOfEvents cause → log ≡ failed why new → FailsAs log why new cause
of_this log why new of_events is same = same
of_this log why new of_memory is same = absurd is
of_this log why new (of_stream fault) is same = absurd is
of_this log why new of_line is same = absurd is
of_this log why new of_reads is same = absurd is
of_this log why new of_end is same = absurd is

pub host_fails : (running now : HostRunning) (core : HostCore) (event : Told) (new : HostCore) (why : SessionFault) (out : List ℕ) → running.core ≡ core
    → Takes (host_step core event) core (Err why) new out → now ≡ record running { core = new }
    → FailsAs (host_act running event) (faults.Session why) now (session_cause why)
host_fails running now core event new why out same takes left =
    let is : host_step core event ≡ Err why = refused (host_step core event) core new why out takes in
    let act : host_act running event ≡ failed (faults.Session why) running = rw (same, is) refl in
    let unchanged : running.core ≡ new = same ∙ sym (as_before (host_step core event) core new why out takes) in
    of_this (host_act running event) (faults.Session why) now (session_cause why) (of_event why (host_refuses core event why is))
    (act ∙ ap (λ (c : HostCore). failed (faults.Session why) (record running { core = c })) unchanged ∙ ap (failed (faults.Session why)) (sym left))

-- a record that the core takes
record_act : (running now : HostRunning) (bytes : List ℕ) (stepped : Stepped HostCore) → host_step running.core (told_record bytes) ≡ Ok stepped → now ≡ record running { core = stepped.core }
    → host_act running (told_record bytes) ≡ taken_record now (host_agreed now.core) bytes
record_act running now bytes stepped is same = rw (is, same) refl

pub host_records : (running now : HostRunning) (core new_core : HostCore) (event : Told) (bytes due : List ℕ) (told : Means) (out : List ℕ) (result : Result Turn RunFault) (new : HostRunning)
    → event ≡ told_record bytes → running.core ≡ core → Takes (host_step core event) core (Ok told) new_core out → now ≡ record running { core = new_core } → due ≡ []
    → Does (taken_record now (host_agreed now.core) bytes) result new [] → Does (host_act running event) result new due
host_records running now core new_core event bytes due told out result new named same_core takes same none does =
    let step = taken (host_step core event) core new_core told out takes in
    let is : host_step running.core (told_record bytes) ≡ Ok step.stepped = ap (λ e. host_step running.core e) (sym named) ∙ ap (λ c. host_step c event) same_core ∙ step.is in
    let act : host_act running (told_record bytes) ≡ taken_record now (host_agreed now.core) bytes =
    record_act running now bytes step.stepped is (same ∙ ap (λ c. record running { core = c }) step.core) in
    let acts : host_act running event ≡ taken_record now (host_agreed now.core) bytes = ap (host_act running) named ∙ act in
    rw (acts, none) does
