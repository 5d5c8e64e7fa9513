-- What a script leads to is determined by what came.
use Rattle.std.proofs.Common.{◌≡◌, List, [], ◌∷◌, ◌++◌, codes, Option, Some, None, refl, sym, ap, ◌∙◌, subst}
use Rattle.std.specs.Prelude.{is_some}
use Rattle.script_screens.specs.declared.lines.Outcome.TheVariants as outcomes
use Rattle.script_screens.specs.Lines.{data_lines}
use Rattle.cli_scripts.specs.Answers.{printed_text}
use Rattle.cli_scripts.specs.declared.came.Came.{Came}
use Rattle.cli_scripts.specs.declared.came.Came.TheVariants as came
use Rattle.cli_scripts.specs.declared.came.Wants.{Wants}
use Rattle.cli_scripts.specs.declared.came.Wants.TheVariants.{Line}
use Rattle.cli_scripts.specs.declared.doing.Step.{Step}
use Rattle.cli_scripts.specs.declared.doing.Step.TheVariants.{Ended}
use Rattle.cli_scripts.specs.declared.machine.Job.{Job}
use Rattle.cli_scripts.specs.declared.worker.Worker.{Worker}
use Rattle.cli_scripts.specs.Desks.{Worked, handed_due, handed_screens}
use Rattle.cli_scripts.specs.Machines.{Scripted}
use Rattle.cli_scripts.specs.Performs.{BeginsLine, GoesOnWith, StopsWith, TakesBy, worker_of}
use Rattle.cli_scripts.specs.RunLaws.{IsSound, RunsAgree, TurnsAgree}
use Rattle.cli_scripts.specs.Runs.{Event, a_line, a_long_line, event_of, Takes, Turns, handed_out}
use Rattle.cli_scripts.specs.Workers.{KeepsSet}
use Rattle.cli_scripts.proofs.ActOnce.{same_worker}
use Rattle.cli_scripts.proofs.GoOnce.{AreAlike, SameJob, StopAlike, begins_once, goes_on_once, stop_once, well_begun, well_gone_on, well_stop}
use Rattle.cli_scripts.proofs.ResumeOnce.{GoesBy, by_once, goes_by}
use Rattle.cli_scripts.proofs.SameSteps.{doing_alike}

-- ---- one of what came

abbrev too_long : Worker → Worker
too_long w = record w { saying = w.saying ++ data_lines (printed_text (codes "line too long") ∷ []) }

-- by what came
abbrev TakesOf : Option Job → Event → Scripted → Wants → Scripted → Type 0
TakesOf (Some job) event old wants new =
    (step : Step) × (mid : Worker) × (mid.code_page ≡ old.code_page) × KeepsSet (worker_of old) mid × GoesBy job.doing event (worker_of old) step mid
    × GoesOnWith step job.rest.items mid old wants new
TakesOf None (a_line line) old wants new = BeginsLine (is_some old.desk.host) line old wants new
TakesOf None a_long_line old wants new = StopsWith (too_long (worker_of old)) (Ended outcomes.Failed) [] old wants new
TakesOf None event old wants new = (wants ≡ Line) × (new ≡ old)

takes_of : (job : Option Job) (it : Came) (old : Scripted) (wants : Wants) (new : Scripted) → TakesBy job it old wants new → TakesOf job (event_of it) old wants new
takes_of (Some job) it old wants new (step, mid, resumes, goes) =
    (step, mid, resumes.page, resumes.set, goes_by job.doing it (worker_of old) step mid resumes.goes, goes)
takes_of None (came.Line line) old wants new takes = takes
takes_of None came.LongLine old wants new takes = takes
takes_of None it old wants new takes = takes

-- alike, and the session is sound still
abbrev StopSo : Wants → Wants → Scripted → Scripted → Type 0
StopSo wants wanted new also = StopAlike wants wanted new also × IsSound new.desk

rests_so : (old was : Scripted) (wants wanted : Wants) (new also : Scripted) → AreAlike old was → IsSound old.desk → (wants ≡ Line) × (new ≡ old)
    → (wanted ≡ Line) × (also ≡ was) → SameJob old.job was.job → StopSo wants wanted new also
rests_so old was wants wanted new also alike sound (is, same) (so, stays) job = (
  record {
    next = is ∙ sym so;
    worker = ap worker_of same ∙ alike.worker ∙ sym (ap worker_of stays);
    told = ap (λ (m : Scripted). m.telling.lines) same ∙ alike.told ∙ sym (ap (λ (m : Scripted). m.telling.lines) stays);
    job = subst (λ (m : Scripted). SameJob m.job also.job) (sym same) (subst (λ (m : Scripted). SameJob old.job m.job) (sym stays) job);
  },
  subst (λ (m : Scripted). IsSound m.desk) (sym same) sound,
)

takes_once : (one two : Option Job) (event : Event) (old was : Scripted) (wants wanted : Wants) (new also : Scripted) → AreAlike old was → SameJob one two
    → SameJob old.job was.job → IsSound old.desk → TakesOf one event old wants new → TakesOf two event was wanted also
    → StopSo wants wanted new also
takes_once (Some one) (Some two) event old was wants wanted new also alike same job sound (step, mid, page, set, goes, stops) (another, between, paged, sets, went, halts) =
    let well = well_gone_on step one.rest.items mid old wants new stops in
    let moved = subst (λ (w : Worker). GoesBy two.doing event w another between) (sym alike.worker) went in
    let kept = subst (λ (w : Worker). KeepsSet w between) (sym alike.worker) sets in
    let here = by_once event one.doing two.doing (worker_of old) mid between step another same.0 sound goes moved in
    let whole : mid ≡ between =
    same_worker mid between here.0.1 (page ∙ ap (λ (w : Worker). w.code_page) alike.worker ∙ sym paged) (set.0 ∙ sym kept.0) (set.1 ∙ sym kept.1) here.0.2 in (
      goes_on_once mid step another one.rest.items two.rest.items old was wants wanted new also here.1 here.0.0 same.1 alike.told stops
          (subst (λ (w : Worker). GoesOnWith another two.rest.items w was wanted also) (sym whole) halts),
      well here.1,
    )
takes_once (Some one) None event old was wants wanted new also alike same job sound p q = absurd same
takes_once None (Some two) event old was wants wanted new also alike same job sound p q = absurd same
takes_once None None (a_line line) old was wants wanted new also alike same job sound p q =
    let hosts : was.desk.host ≡ old.desk.host = sym (ap (λ (w : Worker). w.desk.host) alike.worker) in (
      begins_once (is_some old.desk.host) line old was wants wanted new also sound alike.worker alike.told p
          (subst (λ h. BeginsLine (is_some h) line was wanted also) hosts q),
      well_begun (is_some old.desk.host) line old wants new p sound,
    )
takes_once None None a_long_line old was wants wanted new also alike same job sound p q = (
  stop_once (too_long (worker_of old)) (Ended outcomes.Failed) (Ended outcomes.Failed) [] [] old was wants wanted new also sound refl tt alike.told p
      (subst (λ (w : Worker). StopsWith (too_long w) (Ended outcomes.Failed) [] was wanted also) (sym alike.worker) q),
  well_stop (too_long (worker_of old)) (Ended outcomes.Failed) [] old wants new p sound,
)
takes_once None None event old was wants wanted new also alike same job sound p q = rests_so old was wants wanted new also alike sound p q job

-- alike again, and the same is wanted next
record Agrees (wants wanted : Wants) (new also : Scripted) : Type 0 where
  pub next : wants ≡ wanted
  pub alike : AreAlike new also
  pub sound : IsSound new.desk

event_once : (event : Event) (old was : Scripted) (wants wanted : Wants) (new also : Scripted) → AreAlike old was → IsSound old.desk
    → Takes event old wants new → Takes event was wanted also → Agrees wants wanted new also
event_once event old was wants wanted new also alike sound p q =
    let one = subst (λ (e : Event). TakesOf old.job e old wants new) p.is (takes_of old.job p.it old wants new p.by) in
    let two = subst (λ (e : Event). TakesOf was.job e was wanted also) q.is (takes_of was.job q.it was wanted also q.by) in
    let same = takes_once old.job was.job event old was wants wanted new also alike alike.job alike.job sound one two in
    record {
      next = same.0.next;
      alike = record { worker = same.0.worker; gone = p.gone ∙ alike.gone ∙ sym q.gone; told = same.0.told; job = same.0.job };
      sound = same.1;
    }

-- ---- all of it

abbrev handed_so : Worker → Worker
handed_so w = record w { desk = record (handed_due (handed_screens w.desk)) { fault = None } }

handed_alike : (one two : Scripted) → AreAlike one two → AreAlike (handed_out one) (handed_out two)
handed_alike one two alike = record {
  worker = ap handed_so alike.worker;
  gone = ap (λ z. z ++ one.telling.lines) alike.gone ∙ ap (λ z. two.telling.gone ++ z) alike.told;
  told = refl;
  job = alike.job;
}

turns_once : (events : List Event) (wants last another : Wants) (old was one two : Scripted) → AreAlike old was → IsSound old.desk
    → Turns events wants old last one → Turns events wants was another two → (last ≡ another) × AreAlike one two × IsSound one.desk
turns_once [] wants last another old was one two alike sound (is, same) (so, stays) = (
  is ∙ sym so,
  subst (λ (m : Scripted). AreAlike m two) (sym same) (subst (λ (m : Scripted). AreAlike old m) (sym stays) alike),
  subst (λ (m : Scripted). IsSound m.desk) (sym same) sound,
)
turns_once (event ∷ others) wants last another old was one two alike sound (next, mid, given, takes, turns) (then, between, gives, took, more) =
    let here = event_once event old was next then mid between alike sound takes took in
    turns_once others next last another (handed_out mid) (handed_out between) one two (handed_alike mid between here.alike) here.sound turns
    (subst (λ (w : Wants). Turns others w (handed_out between) another two) (sym here.next) more)

alike_self : (m : Scripted) → AreAlike m m
alike_self m = record { worker = refl; gone = refl; told = refl; job = job_self m.job }
  where
    job_self : (job : Option Job) → SameJob job job
    job_self None = tt
    job_self (Some job) = (doing_alike job.doing, refl)

pub turns_agree : TurnsAgree
turns_agree events wants last another first one two run again sound =
    let same = turns_once events wants last another first first one two (alike_self first) sound run again in
    (same.0, same.1.gone, ap (λ (w : Worker). w.desk) same.1.worker, same.2)

pub runs_agree : RunsAgree
runs_agree first one two known other received received_one received_other received_two run again same sound =
    let there = subst (λ (events : List Event). Turns events Line first again.last again.mid) (sym same) again.turns in
    let agree = turns_agree run.events Line run.last again.last first run.mid again.mid run.turns there sound in (
      ap (λ (m : Scripted). m.telling.gone) run.handed ∙ agree.1 ∙ sym (ap (λ (m : Scripted). m.telling.gone) again.handed),
      ap (λ (m : Scripted). m.desk) run.handed ∙ ap (λ (w : Worked). record (handed_due (handed_screens w)) { fault = None }) agree.2
          ∙ sym (ap (λ (m : Scripted). m.desk) again.handed),
      subst (λ (m : Scripted). IsSound m.desk) (sym run.handed) agree.3,
    )
