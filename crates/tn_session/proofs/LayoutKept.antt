-- A host's run keeps its layout.
use Rattle.std.proofs.Common.{◌≡◌, ℕ, Bool, true, false, cond, List, [], ◌∷◌, Some, None, Option, Result, Ok, Err, refl, sym, ◌∙◌, ap}
use Rattle.std.specs.Prelude.{◌==◌, ◌&&◌, nat_le, if◌then◌else◌}
use Rattle.ds_codec.specs.Geometry.{cells_of}
use Rattle.ds_inbound.specs.Answer.{Answer}
use Rattle.ds_inbound.specs.Reading.{read_of}
use Rattle.ds_inbound.specs.declared.refused.Refused.{Refused}
use Rattle.scr_check.specs.Binding.{Pair, bound_of}
use Rattle.scr_check.specs.declared.binding.BindFault.{BindFault}
use Rattle.tn_wire.specs.declared.header.DataType.{DataType}
use Rattle.tn_wire.specs.declared.header.DataType.TheVariants.{Data3270, Response}
use Rattle.tn_wire.specs.declared.header.HeaderFault.{HeaderFault}
use Rattle.tn_wire.specs.declared.header.Header.{Header}
use Rattle.tn_wire.specs.Header.{Headed, header_of}
use Rattle.tn_wire.specs.Stream.{Told, told_record, told_verb, told_sub, told_passed}
use Rattle.tn_cores.specs.declared.host.HostCore.{HostCore}
use Rattle.tn_cores.specs.declared.session.Agreed.{Agreed}
use Rattle.tn_cores.specs.declared.session.SessionFault.{SessionFault}
use Rattle.tn_cores.specs.declared.session.SessionFault.TheVariants.{BadResponse, TerminalRefused}
use Rattle.tn_cores.specs.Host.{host_agreed}
use Rattle.tn_cores.specs.Steps.{Stepped, host_step}
use Rattle.tn_session.specs.declared.fault.RunFault.TheVariants as faults
use Rattle.tn_session.specs.HostLog.{HostRunning, after_response, is_awaited, responded, bound_answer, read_answer, taken_answer, taken_typed, taken_headed, taken_record, host_by_core, host_act}
use Rattle.tn_session.specs.Runs.{Course, goes, finishes, fails, Log, going, failed, log_on, log_of}

-- where the run goes on, it has the layout that it had
abbrev Keeps : HostRunning → Course HostRunning → Type 0
Keeps running (goes next) = next.layout ≡ running.layout
Keeps running (finishes end) = Unit {0}
Keeps running (fails why state) = Unit {0}

either : (running : HostRunning) (test : Bool) (a b : Log HostRunning) → Keeps running a.course → Keeps running b.course → Keeps running (cond test a b).course
either running true a b first second = first
either running false a b first second = second

refused_kept : (r : HostRunning) (test : Bool) (why other : SessionFault) → Keeps r (cond test (failed (faults.Session why) r) (failed (faults.Session other) r)).course
refused_kept r true why other = tt
refused_kept r false why other = tt

response_kept : (r : HostRunning) (flag : ℕ) (bytes : List ℕ) → Keeps r (responded r flag bytes).course
response_kept r flag [] = tt
response_kept r flag (code ∷ []) =
    let other = (flag == 1) && nat_le code 3 in
    either r ((flag == 0) && (code == 0)) (going [] (after_response r))
    (if other then failed (faults.Session (TerminalRefused code)) r else failed (faults.Session BadResponse) r)
    refl (refused_kept r other (TerminalRefused code) BadResponse)
response_kept r flag (code ∷ other ∷ more) = tt

answer_kept : (r : HostRunning) (agreed : Agreed) (read : Result Answer Refused) → Keeps r (read_answer r agreed read).course
answer_kept r agreed (Err why) = tt
answer_kept r agreed (Ok answer) = bound_kept (bound_of r.layout.entries answer)
  where
    bound_kept : (pairs : Result (List Pair) BindFault) → Keeps r (bound_answer r agreed answer.aid pairs).course
    bound_kept (Ok pairs) = tt
    bound_kept (Err why) = tt

abbrev reading : HostRunning → List ℕ → Result Answer Refused
reading r bytes = read_of r.layout.geometry.mode (cells_of r.layout.size) bytes

typed_kept : (r : HostRunning) (agreed : Agreed) (header : Header) (bytes : List ℕ) (data_type : DataType) → Keeps r (taken_typed agreed r header bytes data_type).course
typed_kept r agreed header bytes Data3270 = answer_kept r agreed (reading r bytes)
typed_kept r agreed header bytes Response =
    either r (is_awaited agreed r header.seq) (responded r header.response bytes) (failed (faults.Session BadResponse) r)
    (response_kept r header.response bytes) tt
typed_kept r agreed header bytes data_type = refl

headed_kept : (r : HostRunning) (agreed : Agreed) (headed : Result Headed HeaderFault) → Keeps r (taken_headed agreed r headed).course
headed_kept r agreed (Err why) = tt
headed_kept r agreed (Ok headed) = typed_kept r agreed headed.header headed.rest headed.header.data_type

record_kept : (r : HostRunning) (agreed : Option Agreed) (bytes : List ℕ) → Keeps r (taken_record r agreed bytes).course
record_kept r None bytes = refl
record_kept r (Some agreed) bytes =
    either r agreed.enhanced (taken_headed agreed r (header_of bytes)) (taken_answer agreed r bytes)
    (headed_kept r agreed (header_of bytes)) (answer_kept r agreed (reading r bytes))

-- the core is no part of it
of_core : (r : HostRunning) (core : HostCore) (course : Course HostRunning) → Keeps (record r { core = core }) course → Keeps r course
of_core r core (goes next) kept = kept
of_core r core (finishes end) kept = tt
of_core r core (fails why last) kept = tt

stepped_kept : (r : HostRunning) (event : Told) (step : Result (Stepped HostCore) SessionFault) → Keeps r (host_by_core r event step).course
stepped_kept r event (Err why) = tt
stepped_kept r (told_record bytes) (Ok step) =
    of_core r step.core (taken_record (record r { core = step.core }) (host_agreed step.core) bytes).course
    (record_kept (record r { core = step.core }) (host_agreed step.core) bytes)
stepped_kept r (told_verb verb option) (Ok step) = refl
stepped_kept r (told_sub option parameters) (Ok step) = refl
stepped_kept r (told_passed byte) (Ok step) = refl

goes_same : {s t : HostRunning} → goes s ≡ goes t → s ≡ t
goes_same e = cc

goes_kept : (r : HostRunning) (course : Course HostRunning) (d : List ℕ) (es : List Told) (due : List ℕ) (next : HostRunning) → Keeps r course
    → ((m : HostRunning) (between : List ℕ) → log_of host_act m es ≡ going between next → next.layout ≡ m.layout)
    → log_on d course (λ n. log_of host_act n es) ≡ going due next → next.layout ≡ r.layout
goes_kept r (goes m) d es due next kept later is =
    later m (log_of host_act m es).due (ap (λ (c : Course HostRunning). record { due = (log_of host_act m es).due; course = c }) (ap (λ (l : Log HostRunning). l.course) is)) ∙ kept
goes_kept r (finishes end) d es due next kept later is = let clash : finishes end ≡ goes next = ap (λ (l : Log HostRunning). l.course) is in absurd cc
goes_kept r (fails why last) d es due next kept later is = let clash : fails why last ≡ goes next = ap (λ (l : Log HostRunning). l.course) is in absurd cc

pub layout_kept : (events : List Told) (r : HostRunning) (due : List ℕ) (next : HostRunning) → log_of host_act r events ≡ going due next → next.layout ≡ r.layout
layout_kept [] r due next is = ap (λ (s : HostRunning). s.layout) (sym (goes_same (ap (λ (l : Log HostRunning). l.course) is)))
layout_kept (event ∷ events) r due next is =
    goes_kept r (host_act r event).course (host_act r event).due events due next (stepped_kept r event (host_step r.core event))
    (λ m between at. layout_kept events m between next at) is
