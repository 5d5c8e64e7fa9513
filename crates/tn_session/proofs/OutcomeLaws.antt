-- What the terminal sends from a checked screen ends the host's run with the touched fields.
use Rattle.std.proofs.Common.{◌≡◌, ℕ, ◌<◌, Bool, true, false, List, [], ◌∷◌, ◌++◌, length, Some, Result, Ok, Err, refl, sym, ◌∙◌, ap, subst, inl, inr}
use Rattle.std.proofs.lemmas.Bool.{cond-true, cond-false}
use Rattle.std.proofs.lemmas.List.{append_cancel_left}
use Rattle.ds_codec.specs.Geometry.{cells_of}
use Rattle.ds_screen.specs.Picture.{Picture}
use Rattle.ds_keys.specs.declared.key.Key.{Key}
use Rattle.ds_inbound.specs.Reading.{read_of}
use Rattle.ds_inbound.proofs.Answers.{read_again}
use Rattle.scr_layout.specs.Layout.{Declaration}
use Rattle.scr_check.specs.Binding.{Pair, bound_of}
use Rattle.scr_check.specs.Promise.{is_among, IsProtectedSame, SendsTouched, due_answer}
use Rattle.scr_check.proofs.BindLaw.{binds_exactly}
use Rattle.scr_check.proofs.KeptLaws.{attribute_inside}
use Rattle.scr_check.proofs.UserLaw.{yes_means}
use Rattle.tn_wire.specs.Stream.{Told, told_record}
use Rattle.tn_cores.specs.declared.session.Agreed.{Agreed}
use Rattle.tn_cores.specs.Host.{new_host, host_agreed, opening}
use Rattle.tn_cores.specs.Replies.{bytes_of}
use Rattle.tn_cores.specs.Steps.{record_step}
use Rattle.tn_session.specs.declared.fault.RunFault.{RunFault}
use Rattle.tn_session.specs.declared.outcome.HostOutcome.{HostOutcome}
use Rattle.tn_session.specs.declared.turn.Finish.{Finish}
use Rattle.tn_session.specs.declared.turn.Finish.TheVariants as finish
use Rattle.tn_session.specs.HostLog.{HostRunning, host_start, outcome_of, bound_answer, read_answer, taken_answer, taken_typed, taken_headed, taken_record, host_by_core, host_act}
use Rattle.tn_session.specs.HostRan.{Answers, HostRan}
use Rattle.tn_session.specs.HostView.{outcome_view}
use Rattle.tn_session.specs.Outcomes.{sent_by, IsOfTouched, HoldsIn, Finishes, EndsLog, AnswersFinish, AnswersEndLogs, OutcomesAreTouched}
use Rattle.tn_session.specs.Ran.{Ran}
use Rattle.tn_session.specs.Runs.{finishes, Log, going, finished, log_on, log_of, EndsBy}
use Rattle.tn_session.specs.Wire.{WireState}
use Rattle.tn_session.specs.OneLog.{is_over}
use Rattle.tn_session.proofs.LayoutKept.{layout_kept}
use Rattle.tn_session.proofs.OneLog.{have_one_log}
use Rattle.tn_session.proofs.RunLaws.{log-append}
use Rattle.tn_session.proofs.TouchedPairs.{pairs_of, are_paired, are_of_entries, pairs_once, some_same}

-- ---- reading and binding

module _ (layout : Declaration) (opened : Picture) (keys : List Key) (v : Picture) (aid : ℕ) (kept : IsProtectedSame opened.cells v.cells) (s : SendsTouched layout opened keys v aid) where
  abbrev bound : List Pair
  bound = pairs_of layout.entries opened.cells v.cells s.places s.declared

  inside : (q : ℕ) → is_among s.places q ≡ true → q < length v.cells
  inside q there = subst (λ n. q < n) (sym kept.whole) (attribute_inside opened.cells q ((s.touched.exactly q).0 there).0)

  is_bound : bound_of layout.entries (due_answer aid v s.places) ≡ Ok bound
  is_bound = (binds_exactly layout.entries (due_answer aid v s.places) bound).1 (record {
    lead = refl;
    paired = are_paired layout.entries opened.cells v.cells s.places s.declared;
    once = pairs_once layout.entries opened.cells v.cells s.places s.declared inside s.touched.rising;
  })

  is_read : read_of layout.geometry.mode (cells_of layout.size) (sent_by v aid) ≡ Ok (due_answer aid v s.places)
  is_read = read_again layout.geometry.mode (cells_of layout.size) (sent_by v aid) (due_answer aid v s.places) s.says.0

  taken_so : (agreed : Agreed) (running : HostRunning) → running.layout ≡ layout
      → taken_answer agreed running (sent_by v aid) ≡ finished [] (record running { outcome = Some (outcome_of agreed aid bound) })
  taken_so agreed running same =
      ap (λ (l : Declaration). read_answer running agreed (read_of l.geometry.mode (cells_of l.size) (sent_by v aid))) same
      ∙ ap (read_answer running agreed) is_read
      ∙ ap (λ (l : Declaration). bound_answer running agreed aid (bound_of l.entries (due_answer aid v s.places))) same
      ∙ ap (bound_answer running agreed aid) is_bound

  of_touched : (agreed : Agreed) → IsOfTouched layout opened keys v agreed aid (outcome_of agreed aid bound)
  of_touched agreed = record {
    session = refl;
    key = refl;
    places = s.places;
    touched = s.touched;
    declared = s.declared;
    fields = are_of_entries layout.entries opened.cells v.cells s.places s.declared;
  }

pub answers_finish : AnswersFinish
answers_finish layout records law conforms opened keys v on aid long agreed running same =
    let yes = yes_means layout records law conforms on.before opened v keys on.geometry on.shown on.typed in
    let s : SendsTouched layout opened keys v aid = yes.1 aid long on.free in (
      outcome_of agreed aid (bound layout opened keys v aid yes.0 s),
      of_touched layout opened keys v aid yes.0 s agreed,
      taken_so layout opened keys v aid yes.0 s agreed running same,
    )

-- ---- the record

held : (agreed : Agreed) (running : HostRunning) (bytes answer : List ℕ) (enhanced : Bool) → agreed.enhanced ≡ enhanced → HoldsIn enhanced bytes answer
    → taken_record running (Some agreed) bytes ≡ taken_answer agreed running answer
held agreed running bytes answer false is holds = cond-false agreed.enhanced _ _ is ∙ ap (taken_answer agreed running) holds
held agreed running bytes answer true is (header, typed, read) =
    cond-true agreed.enhanced _ _ is ∙ ap (taken_headed agreed running) read ∙ ap (taken_typed agreed running header answer) typed

taken_ready : (agreed : Agreed) (running : HostRunning) (bytes answer : List ℕ) → host_agreed running.core ≡ Some agreed → HoldsIn agreed.enhanced bytes answer
    → host_act running (told_record bytes) ≡ taken_answer agreed running answer
taken_ready agreed running bytes answer ready holds =
    ap (λ a. host_by_core running (told_record bytes) (record_step running.core a)) ready
    ∙ ap (λ a. taken_record running a bytes) ready
    ∙ held agreed running bytes answer agreed.enhanced refl holds

last_finishes : (running end : HostRunning) (event : Told) → host_act running event ≡ finished [] end → log_of host_act running (event ∷ []) ≡ finished [] end
last_finishes running end event is = ap (λ (l : Log HostRunning). log_on l.due l.course (λ n. going [] n)) is

ends_log : (layout : Declaration) (records : List (List ℕ)) (opened : Picture) (keys : List Key) (v : Picture) (aid : ℕ) → Finishes layout records opened keys v aid → EndsLog layout records opened keys v aid
ends_log layout records opened keys v aid finishing enhanced responses stream agreed b =
    let start : HostRunning = host_start layout records enhanced responses in
    let same : b.running.layout ≡ layout = layout_kept b.events start b.due b.running b.log in
    let done = finishing agreed b.running same in
    let end : HostRunning = record b.running { outcome = Some done.0 } in
    let acts : host_act b.running (told_record b.bytes) ≡ finished [] end = taken_ready agreed b.running b.bytes (sent_by v aid) b.ready b.holds ∙ done.2 in
    let last : log_of host_act b.running (told_record b.bytes ∷ []) ≡ finished [] end = last_finishes b.running end (told_record b.bytes) acts in (
      b.due ++ [],
      end,
      done.0,
      record {
        used = b.used;
        more = b.more;
        events = b.events ++ told_record b.bytes ∷ [];
        left = b.left;
        front = b.front;
        tells = b.tells;
        log = log-append host_act b.events (told_record b.bytes ∷ []) start b.due b.running b.log
            ∙ ap (λ (l : Log HostRunning). record { due = b.due ++ l.due; course = l.course }) last;
      },
      refl,
      done.1,
    )

pub answers_end_logs : AnswersEndLogs
answers_end_logs layout records law conforms opened keys v on aid long =
    ends_log layout records opened keys v aid (answers_finish layout records law conforms opened keys v on aid long)

-- ---- the run

module _ (layout : Declaration) (records : List (List ℕ)) (enhanced responses : Bool) (old new : WireState) (outcome : HostOutcome) (stream : List ℕ) where
  abbrev start : HostRunning
  start = host_start layout records enhanced responses

  ended_so : (finished_by : Result Finish RunFault) (end : HostRunning) → Ran host_act (bytes_of (opening (new_host layout.geometry enhanced responses))) start old finished_by end new
      → Answers finished_by end (Ok outcome) → new.received ≡ old.received ++ stream
      → (due : List ℕ) × EndsBy host_act [] start stream due (finishes end) × (end.outcome ≡ Some (outcome_view outcome))
  ended_so (Ok finish.Finished) end (read, due, ends, passed) (given, is, told) received =
      let same : read ≡ stream = append_cancel_left old.received read stream (sym passed.received ∙ received) in
      let one : given ≡ outcome = cc in (
        due,
        subst (λ z. EndsBy host_act [] start z due (finishes end)) same ends,
        told ∙ ap (λ o. Some (outcome_view o)) one,
      )
  ended_so (Ok finish.Closed) end ran is received = absurd cc
  ended_so (Err why) end ran is received = absurd cc

  ran_so : HostRan layout records enhanced responses old (Ok outcome) new → new.received ≡ old.received ++ stream
      → (end : HostRunning) × (due : List ℕ) × EndsBy host_act [] start stream due (finishes end) × (end.outcome ≡ Some (outcome_view outcome))
  ran_so (inl (has, r)) received = let ended = ended_so r.finished r.end r.ran r.answer received in (r.end, ended.0, ended.1, ended.2)
  ran_so (inr (has_none, is, same)) received = absurd cc

pub outcomes_are_touched : OutcomesAreTouched
outcomes_are_touched layout records law conforms opened keys v on aid long enhanced responses old new outcome stream agreed ran received brings =
    let mine = answers_end_logs layout records law conforms opened keys v on aid long enhanced responses stream agreed brings in
    let run = ran_so layout records enhanced responses old new outcome stream ran received in
    let one = have_one_log host_act [] (host_start layout records enhanced responses) stream mine.0 run.1 (is_over mine.1) (is_over run.0) mine.3 run.2 in
    let ends : mine.1 ≡ run.0 = over_same one.1 in
    let same : mine.2 ≡ outcome_view outcome = some_same (sym mine.4 ∙ ap (λ (r : HostRunning). r.outcome) ends ∙ run.3) in
    subst (IsOfTouched layout opened keys v agreed aid) same mine.5
  where
    over_same : {s t : HostRunning} → is_over s ≡ is_over t → s ≡ t
    over_same e = cc
