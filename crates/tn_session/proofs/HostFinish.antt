-- A host's run that an answer ended tells what came of it.
use Rattle.std.proofs.Common.{◌≡◌, ℕ, ◌&&◌, Bool, true, false, cond, nat_eq, nat_le, List, [], ◌∷◌, ◌++◌, Option, Some, None, Ok, Err, refl, sym, ◌∙◌, ap, subst, inl, inr}
use Rattle.std.specs.Prelude.{Result, IsSome}
use Rattle.ds_inbound.specs.Answer.{Answer}
use Rattle.ds_inbound.specs.Reading.{read_of}
use Rattle.ds_inbound.specs.declared.refused.Refused.{Refused}
use Rattle.ds_codec.specs.Geometry.{cells_of}
use Rattle.scr_layout.specs.Layout.{Declaration}
use Rattle.scr_check.specs.Binding.{Pair, bound_of}
use Rattle.scr_check.specs.declared.binding.BindFault.{BindFault}
use Rattle.tn_wire.specs.Header.{Headed, header_of}
use Rattle.tn_wire.specs.Stream.{Told, told_record, told_verb, told_sub, told_passed}
use Rattle.tn_wire.specs.declared.header.DataType.{DataType}
use Rattle.tn_wire.specs.declared.header.DataType.TheVariants.{Data3270, ScsData, Response, BindImage, Unbind, NvtData, Request, SscpLuData, PrintEoj}
use Rattle.tn_wire.specs.declared.header.Header.{Header as Head}
use Rattle.tn_wire.specs.declared.header.HeaderFault.{HeaderFault}
use Rattle.tn_cores.specs.declared.host.HostCore.{HostCore}
use Rattle.tn_cores.specs.declared.session.Agreed.{Agreed}
use Rattle.tn_cores.specs.declared.session.SessionFault.{SessionFault}
use Rattle.tn_cores.specs.declared.session.SessionFault.TheVariants.{Rejected, WrongList, BadSubnegotiation, OptionRefused, NotReady, BadResponse, TooManyReads, LineFault, NoDevice, Closed, TerminalRefused}
use Rattle.tn_cores.specs.Host.{new_host, opening, host_agreed}
use Rattle.tn_cores.specs.Replies.{bytes_of}
use Rattle.tn_cores.specs.Steps.{Stepped, host_step}
use Rattle.tn_session.specs.declared.fault.RunFault.{RunFault}
use Rattle.tn_session.specs.declared.fault.RunFault.TheVariants.{Wire, Header, Session, Inbound, Bind, OutOfMemory}
use Rattle.tn_session.specs.declared.progress.Progress.{Progress}
use Rattle.tn_session.specs.declared.progress.Progress.TheVariants.{More, Done}
use Rattle.tn_session.specs.declared.outcome.HostOutcome.{HostOutcome}
use Rattle.tn_session.specs.declared.turn.Finish.{Finish}
use Rattle.tn_session.specs.declared.turn.Finish.TheVariants as finish
use Rattle.tn_session.specs.HostLog.{Outcome, HostRunning, host_start, ready_due, responded, is_awaited, outcome_of, bound_answer, read_answer, taken_answer, taken_typed, taken_headed, taken_record, host_stepped, host_by_core, host_act}
use Rattle.tn_session.specs.HostRan.{Answers, HasModel, HostRan}
use Rattle.tn_session.specs.HostTalk.{host_talk, IsMade, NotMade, first_said, HasCome, OutcomeTaken}
use Rattle.tn_session.specs.OneLog.{waits, is_over, has_failed, is_at_fault}
use Rattle.tn_session.specs.Ran.{Ran}
use Rattle.tn_session.specs.RanSession.{EndsAs, RanSession}
use Rattle.tn_session.specs.Talk.{Talk, stands, starved, failed_talk, Hears, Takes}
use Rattle.tn_session.specs.Runs.{Course, goes, finishes, fails, Log, going, failed, log_on, log_of}
use Rattle.tn_session.specs.Wire.{WireState}

abbrev HasOutcome : HostRunning → Type 0
HasOutcome running = (outcome : Outcome) × (running.outcome ≡ Some outcome)

-- where the log is finished, something came of the run
abbrev Tells : Log HostRunning → Type 0
Tells log = (end : HostRunning) → log.course ≡ finishes end → HasOutcome end

going_tells : (due : List ℕ) (running : HostRunning) → Tells (going due running)
going_tells due running end is = absurd cc

failed_tells : (why : RunFault) (state : HostRunning) → Tells (failed why state)
failed_tells why state end is = absurd cc

by_test : (t : Bool) (first second : Log HostRunning) → Tells first → Tells second → Tells (cond t first second)
by_test true first second a b = a
by_test false first second a b = b

responded_tells : (running : HostRunning) (flag : ℕ) (bytes : List ℕ) → Tells (responded running flag bytes)
responded_tells running flag [] = failed_tells _ running
responded_tells running flag (code ∷ []) =
    by_test (nat_eq flag 0 && nat_eq code 0) _ _ (going_tells [] _) (by_test (nat_eq flag 1 && nat_le code 3) _ _ (failed_tells _ running) (failed_tells _ running))
responded_tells running flag (code ∷ more ∷ bytes) = failed_tells _ running

bound_tells : (running : HostRunning) (agreed : Agreed) (aid : ℕ) (pairs : Result (List Pair) BindFault) → Tells (bound_answer running agreed aid pairs)
bound_tells running agreed aid (Ok pairs) end is =
    let same : record running { outcome = Some (outcome_of agreed aid pairs) } ≡ end = cc in (outcome_of agreed aid pairs, ap (λ (r : HostRunning). r.outcome) (sym same))
bound_tells running agreed aid (Err why) end is = absurd cc

read_tells : (running : HostRunning) (agreed : Agreed) (answer : Result Answer Refused) → Tells (read_answer running agreed answer)
read_tells running agreed (Ok answer) = bound_tells running agreed answer.aid (bound_of running.layout.entries answer)
read_tells running agreed (Err why) = failed_tells _ running

answer_tells : (agreed : Agreed) (running : HostRunning) (bytes : List ℕ) → Tells (taken_answer agreed running bytes)
answer_tells agreed running bytes = read_tells running agreed (read_of running.layout.geometry.mode (cells_of running.layout.size) bytes)

typed_tells : (agreed : Agreed) (running : HostRunning) (header : Head) (bytes : List ℕ) (data_type : DataType) → Tells (taken_typed agreed running header bytes data_type)
typed_tells agreed running header bytes Data3270 = answer_tells agreed running bytes
typed_tells agreed running header bytes Response = by_test (is_awaited agreed running header.seq) _ _ (responded_tells running header.response bytes) (failed_tells _ running)
typed_tells agreed running header bytes ScsData = going_tells [] running
typed_tells agreed running header bytes BindImage = going_tells [] running
typed_tells agreed running header bytes Unbind = going_tells [] running
typed_tells agreed running header bytes NvtData = going_tells [] running
typed_tells agreed running header bytes Request = going_tells [] running
typed_tells agreed running header bytes SscpLuData = going_tells [] running
typed_tells agreed running header bytes PrintEoj = going_tells [] running

headed_tells : (agreed : Agreed) (running : HostRunning) (headed : Result Headed HeaderFault) → Tells (taken_headed agreed running headed)
headed_tells agreed running (Ok headed) = typed_tells agreed running headed.header headed.rest headed.header.data_type
headed_tells agreed running (Err why) = failed_tells _ running

record_tells : (running : HostRunning) (agreed : Option Agreed) (bytes : List ℕ) → Tells (taken_record running agreed bytes)
record_tells running None bytes = going_tells [] running
record_tells running (Some agreed) bytes = by_test agreed.enhanced _ _ (headed_tells agreed running (header_of bytes)) (answer_tells agreed running bytes)

stepped_tells : (running : HostRunning) (event : Told) (step : Stepped HostCore) → Tells (host_stepped running event step)
stepped_tells running (told_record bytes) step = record_tells (record running { core = step.core }) (host_agreed step.core) bytes
stepped_tells running (told_verb verb option) step = going_tells (bytes_of step.reply ++ ready_due running.records step.told) (record running { core = step.core })
stepped_tells running (told_sub option parameters) step = going_tells (bytes_of step.reply ++ ready_due running.records step.told) (record running { core = step.core })
stepped_tells running (told_passed byte) step = going_tells (bytes_of step.reply ++ ready_due running.records step.told) (record running { core = step.core })

core_tells : (running : HostRunning) (event : Told) (step : Result (Stepped HostCore) SessionFault) → Tells (host_by_core running event step)
core_tells running event (Ok step) = stepped_tells running event step
core_tells running event (Err why) = failed_tells _ running

on_tells : (due : List ℕ) (course : Course HostRunning) (later : HostRunning → Log HostRunning) → ((end : HostRunning) → course ≡ finishes end → HasOutcome end) → ((next : HostRunning) → Tells (later next))
    → Tells (log_on due course later)
on_tells due (goes next) later here there = there next
on_tells due (finishes end) later here there = here
on_tells due (fails why last) later here there = λ end is. absurd cc

log_tells : (events : List Told) (running : HostRunning) → Tells (log_of host_act running events)
log_tells [] running = going_tells [] running
log_tells (event ∷ events) running =
    on_tells (host_act running event).due (host_act running event).course (λ next. log_of host_act next events) (core_tells running event (host_step running.core event)) (λ next. log_tells events next)

-- ---- what is answered

none_some : {A : Type 0} (x : A) (o : Option A) → o ≡ Some x → o ≡ None → ⊥
none_some {A = A} x o some none = let same : ◌≡◌ {A = Option A} None (Some x) = sym none ∙ some in absurd cc

outcome_told : (end : HostRunning) (result : Result HostOutcome RunFault) → HasOutcome end → OutcomeTaken (stands (is_over end)) result → Answers (Ok finish.Finished) end result
outcome_told end (Ok outcome) has taken = (outcome, refl, taken)
outcome_told end (Err why) has taken = absurd (none_some has.0 end.outcome has.1 taken)

-- what the run answers, by how the session stands at its end
abbrev AnswersLast : Result Finish RunFault → Talk HostRunning → Result HostOutcome RunFault → Type 0
AnswersLast (Ok finish.Finished) last result = OutcomeTaken last result
AnswersLast (Ok finish.Closed) last result = result ≡ Err (Session Closed)
AnswersLast (Err why) last result = result ≡ Err why

answers_so : (start end : HostRunning) (first : List ℕ) (old new : WireState) (done : Result Finish RunFault) (last : Talk HostRunning) (result : Result HostOutcome RunFault)
    → EndsAs done end last → Ran host_act first start old done end new → AnswersLast done last result → Answers done end result
answers_so start end first old new (Ok finish.Finished) last result is ran taken =
    outcome_told end result (log_tells ran.2.events start end (ap (λ (log : Log HostRunning). log.course) ran.2.log)) (subst (λ t. OutcomeTaken t result) is taken)
answers_so start end first old new (Ok finish.Closed) last result is ran answers = answers
answers_so start end first old new (Err why) last result is ran answers = answers

-- ---- the run from its beginning

module _ (layout : Declaration) (records : List (List ℕ)) (enhanced responses : Bool) where
  abbrev start : HostRunning
  start = host_start layout records enhanced responses

  begun_so : (state : HostRunning) (talk : Talk HostRunning) → talk ≡ host_talk layout records enhanced responses → talk ≡ stands (waits state []) → state ≡ start
  begun_so state talk made is = let same : ◌≡◌ {A = Talk HostRunning} (stands (waits state [])) (stands (waits start [])) = sym is ∙ made in cc

  pub ran_host : (talk last : Talk HostRunning) (first : List ℕ) (old new : WireState) (done : Result Finish RunFault) (result : Result HostOutcome RunFault)
      → IsMade layout records enhanced responses talk → first ≡ first_said talk → RanSession host_act first talk old done last new → AnswersLast done last result
      → HostRan layout records enhanced responses old result new
  ran_host talk last first old new done result made says (state, begins, end, ends, ran) answers =
      let same : state ≡ start = begun_so state talk made.0 begins in
      let said : first ≡ bytes_of (opening (new_host layout.geometry enhanced responses)) = says ∙ ap first_said made.0 in
      let whole : Ran host_act (bytes_of (opening (new_host layout.geometry enhanced responses))) start old done end new =
      subst (λ s. Ran host_act (bytes_of (opening (new_host layout.geometry enhanced responses))) s old done end new) same
      (subst (λ f. Ran host_act f state old done end new) said ran) in
      inl (made.1, record { finished = done; end = end; ran = whole; answer = answers_so state end first old new done last result ends ran answers })

  pub no_memory_for : (old : WireState) (result : Result HostOutcome RunFault) → HasModel layout → result ≡ Err OutOfMemory
      → HostRan layout records enhanced responses old result old
  no_memory_for old result has is = inl (has, record { finished = Err OutOfMemory; end = start; ran = inl refl; answer = is })

  pub none_made : (why : RunFault) (old : WireState) (result : Result HostOutcome RunFault) → result ≡ Err why → NotMade layout why
      → HostRan layout records enhanced responses old result old
  none_made OutOfMemory old result is has = no_memory_for old result has is
  none_made (Session NoDevice) old result is none = inr (none, is, refl)
  none_made (Session (Rejected reason)) old result is none = absurd none
  none_made (Session WrongList) old result is none = absurd none
  none_made (Session BadSubnegotiation) old result is none = absurd none
  none_made (Session (OptionRefused code)) old result is none = absurd none
  none_made (Session NotReady) old result is none = absurd none
  none_made (Session BadResponse) old result is none = absurd none
  none_made (Session TooManyReads) old result is none = absurd none
  none_made (Session LineFault) old result is none = absurd none
  none_made (Session Closed) old result is none = absurd none
  none_made (Session (TerminalRefused reason)) old result is none = absurd none
  none_made (Wire fault) old result is none = absurd none
  none_made (Header fault) old result is none = absurd none
  none_made (Inbound why) old result is none = absurd none
  none_made (Bind why) old result is none = absurd none

-- ---- a session that is over has its outcome

failed_come : (why : RunFault) (state : HostRunning) → HasCome (failed_talk why state)
failed_come OutOfMemory state = tt
failed_come (Session why) state = tt
failed_come (Wire fault) state = tt
failed_come (Header fault) state = tt
failed_come (Inbound why) state = tt
failed_come (Bind why) state = tt

some_told : (o : Option Outcome) (x : Outcome) → o ≡ Some x → IsSome o
some_told o x is = subst IsSome (sym is) refl

hears_come : (left : List ℕ) (state : HostRunning) (piece : List ℕ) (result : Result Progress RunFault) (given : List ℕ) (new : Talk HostRunning)
    → Hears host_act left state piece result given new → HasCome new
hears_come left state piece (Ok More) given new (next, rest, log, is) = subst HasCome (sym is) tt
hears_come left state piece (Ok (Done taken)) given new (end, few, e, is) =
    let has : HasOutcome end = log_tells e.ends.events state end (ap (λ (log : Log HostRunning). log.course) e.ends.log) in
    subst HasCome (sym is) (some_told end.outcome has.0 has.1)
hears_come left state piece (Err why) given new (end, went, is) = subst HasCome (sym is) (failed_come why end)

pub has_come : (old : Talk HostRunning) (piece : List ℕ) (result : Result Progress RunFault) (given : List ℕ) (new : Talk HostRunning)
    → HasCome old → Takes host_act old piece result given new → HasCome new
has_come (stands (waits state left)) piece result given new has takes = hears_come left state piece result given new takes
has_come (stands (is_over end)) piece result given new has takes = subst HasCome (sym takes.2) has
has_come (stands (has_failed why state)) piece result given new has takes = subst HasCome (sym takes.2) tt
has_come (stands (is_at_fault fault state)) piece result given new has takes = subst HasCome (sym takes.2) tt
has_come starved piece result given new has takes = subst HasCome (sym takes.2) tt
