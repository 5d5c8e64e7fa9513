-- What becomes of a line is determined, while the session sound.
use Rattle.std.proofs.Common.{◌≡◌, ℕ, Bool, true, false, List, [], ◌∷◌, ◌++◌, Option, Some, None, refl, sym, ap, ◌∙◌, subst}
use Rattle.std.specs.Prelude.{Result}
use Rattle.script_keys.specs.Actions as known
use Rattle.script_keys.specs.Faults.{Fault}
use Rattle.script_lines.specs.Actions as lines
use Rattle.script_screens.specs.declared.lines.Outcome.{Outcome}
use Rattle.script_screens.specs.declared.lines.Outcome.TheVariants as outcomes
use Rattle.script_screens.specs.Status.{status_line}
use Rattle.ds_screen.specs.Picture.{Picture}
use Rattle.tn_session.specs.declared.terminal_state.TerminalState.{TerminalState}
use Rattle.cli_scripts.specs.Answers.{Telling, last_line}
use Rattle.cli_scripts.specs.declared.came.Need.TheVariants.{Arrived}
use Rattle.cli_scripts.specs.declared.came.Wants.{Wants}
use Rattle.cli_scripts.specs.declared.came.Wants.TheVariants.{Need}
use Rattle.cli_scripts.specs.declared.doing.Doing.{Doing}
use Rattle.cli_scripts.specs.declared.doing.Doing.TheVariants.{Arriving}
use Rattle.cli_scripts.specs.declared.doing.Step.{Step}
use Rattle.cli_scripts.specs.declared.doing.Step.TheVariants.{Ended, Quits, Waits}
use Rattle.cli_scripts.specs.declared.machine.Job.{Job}
use Rattle.cli_scripts.specs.declared.worker.Worker.{Worker}
use Rattle.cli_scripts.specs.Desks.{Worked, device_in, link_in, model_number}
use Rattle.cli_scripts.specs.Machines.{IsKept, Scripted, TellsOf}
use Rattle.cli_scripts.specs.Performs.{Acted, AreCalls, AreDone, BeginsLine, Call, Calls, Goes, GoesOnWith, IsStop, Performs, StopsBy, StopsWith, worker_of}
use Rattle.cli_scripts.specs.RunLaws.{IsSound}
use Rattle.cli_scripts.specs.Says.{TellsAnswer}
use Rattle.cli_scripts.proofs.ActOnce.{GoesWell, acted_once, well_acted, well_closed, well_same}
use Rattle.cli_scripts.proofs.SameSteps.{SameDoing, SameStep, steps_alike}
use Rattle.cli_scripts.proofs.Sound.{part_of}

-- ---- the actions of a line

-- what is left of a line counts where an action of it waits
abbrev pub SameRest : Step → List ℕ → List ℕ → Type 0
SameRest (Waits doing need) rest more = rest ≡ more
SameRest step rest more = Unit {0}

abbrev pub AlikeStops : Step → Step → List ℕ → List ℕ → Worker → Worker → Type 0
AlikeStops step another rest more new also = SameStep step another × SameRest step rest more × (new ≡ also)

done_step : (step : Step) → SameStep step (Ended outcomes.Done) → step ≡ Ended outcomes.Done
done_step (Waits doing need) same = absurd cc
done_step (Ended outcome) same = same
done_step Quits same = absurd cc

over_rest : (step : Step) (outcome : Outcome) (rest more : List ℕ) → step ≡ Ended outcome → SameRest step rest more
over_rest step outcome rest more is = subst (λ (s : Step). SameRest s rest more) (sym is) tt

left_rest : (step : Step) (rest more : List ℕ) → rest ≡ more → SameRest step rest more
left_rest (Waits doing need) rest more same = same
left_rest (Ended outcome) rest more same = tt
left_rest Quits rest more same = tt

-- an action that ends well is no stop
no_stop : (action : Result known.Action Fault) (old new also : Worker) (step : Step) → IsSound old.desk → Acted action old step new → IsStop step
    → Acted action old (Ended outcomes.Done) also → ⊥
no_stop action old new also step sound stopped is done =
    subst IsStop (done_step step (acted_once action old new also step (Ended outcomes.Done) sound stopped done).0) is

stops_once : (read : lines.Read) (old new also : Worker) (step another : Step) (rest more : List ℕ) → IsSound old.desk
    → StopsBy read old step rest new → StopsBy read old another more also → AlikeStops step another rest more new also
stops_once lines.ends old new also step another rest more sound (is, same) (so, stays) =
    (steps_alike step another (Ended outcomes.Done) is so, over_rest step outcomes.Done rest more is, same ∙ sym stays)
stops_once (lines.fault why) old new also step another rest more sound ((is, says), same) ((so, tells), stays) = (
  steps_alike step another (Ended outcomes.Failed) is so,
  over_rest step outcomes.Failed rest more is,
  same ∙ ap (λ (z : List ℕ). record old { saying = z }) (says ∙ sym tells) ∙ sym stays,
)
stops_once (lines.action name arguments after) old new also step another rest more sound (acts, stop, left) (does, halts, gone) =
    let same = acted_once (known.read_action name arguments) old new also step another sound acts does in
    (same.0, left_rest step rest more (left ∙ sym gone), same.1)

abbrev call_of : lines.Read → Call → Call
call_of (lines.action name arguments after) else_call = record { name = name; arguments = arguments }
call_of read else_call = else_call

abbrev rest_of : lines.Read → List ℕ → List ℕ
rest_of (lines.action name arguments after) else_rest = after
rest_of read else_rest = else_rest

lines_once : (line : List ℕ) (front others : List Call) (left found : List ℕ) (old mid between new also : Worker) (step another : Step) (rest more : List ℕ)
    → IsSound old.desk → AreCalls line front left → AreDone front old mid → StopsBy (lines.read_action left) mid step rest new
    → AreCalls line others found → AreDone others old between → StopsBy (lines.read_action found) between another more also
    → AlikeStops step another rest more new also
lines_once line [] [] left found old mid between new also step another rest more sound here_at done stops here did halts =
    stops_once (lines.read_action line) old new also step another rest more sound
    (subst (λ (w : Worker). StopsBy (lines.read_action line) w step rest new) done
    (subst (λ (z : List ℕ). StopsBy (lines.read_action z) mid step rest new) (sym here_at) stops))
    (subst (λ (w : Worker). StopsBy (lines.read_action line) w another more also) did
    (subst (λ (z : List ℕ). StopsBy (lines.read_action z) between another more also) (sym here) halts))
lines_once line [] (call ∷ others) left found old mid between new also step another rest more sound here_at done stops (after, next, are) (then, calls, did) halts =
    let stopped = subst (λ (r : lines.Read). StopsBy r old step rest new) (sym (ap lines.read_action here_at) ∙ next)
    (subst (λ (w : Worker). StopsBy (lines.read_action left) w step rest new) done stops) in
    absurd (no_stop (known.read_action call.name call.arguments) old new then step sound stopped.0 stopped.1 calls)
lines_once line (call ∷ front) [] left found old mid between new also step another rest more sound (after, next, are) (then, calls, done) stops here_at did halts =
    let stopped = subst (λ (r : lines.Read). StopsBy r old another more also) (sym (ap lines.read_action here_at) ∙ next)
    (subst (λ (w : Worker). StopsBy (lines.read_action found) w another more also) did halts) in
    absurd (no_stop (known.read_action call.name call.arguments) old also then another sound stopped.0 stopped.1 calls)
lines_once line (call ∷ front) (one ∷ others) left found old mid between new also step another rest more sound (after, next, are) (then, calls, done) stops
    (behind, follows, form) (later, called, did) halts =
    let same : one ≡ call = ap (λ (r : lines.Read). call_of r call) (sym follows ∙ next) in
    let cut : behind ≡ after = ap (λ (r : lines.Read). rest_of r after) (sym follows ∙ next) in
    let action = known.read_action call.name call.arguments in
    let there : Acted action old (Ended outcomes.Done) later = subst (λ (c : Call). Calls c old (Ended outcomes.Done) later) same called in
    let alike : later ≡ then = sym (acted_once action old then later (Ended outcomes.Done) (Ended outcomes.Done) sound calls there).1 in
    lines_once after front others left found then mid between new also step another rest more (well_acted action old.desk then.desk calls.acts sound)
    are done stops (subst (λ (z : List ℕ). AreCalls z others found) cut form) (subst (λ (w : Worker). AreDone others w between) alike did) halts

pub goes_once : (line : List ℕ) (old new also : Worker) (step another : Step) (rest more : List ℕ) → IsSound old.desk → Goes line old step rest new
    → Goes line old another more also → AlikeStops step another rest more new also
goes_once line old new also step another rest more sound (left, mid, (front, are, done), stops) (found, between, (others, form, did), halts) =
    lines_once line front others left found old mid between new also step another rest more sound are done stops form did halts

-- ---- a line leaves a session that sound so

well_done : (front : List Call) (old new : Worker) → AreDone front old new → GoesWell old.desk new.desk
well_done [] old new is = well_same old.desk new.desk (ap (λ (w : Worker). w.desk) is)
well_done (call ∷ others) old new (mid, calls, done) =
    let here = well_acted (known.read_action call.name call.arguments) old.desk mid.desk calls.acts in
    let there = well_done others mid new done in
    λ sound. there (here sound)

well_stopped : (read : lines.Read) (old new : Worker) (step : Step) (rest : List ℕ) → StopsBy read old step rest new → GoesWell old.desk new.desk
well_stopped lines.ends old new step rest (is, same) = well_same old.desk new.desk (ap (λ (w : Worker). w.desk) same)
well_stopped (lines.fault why) old new step rest (says, same) = well_same old.desk new.desk (ap (λ (w : Worker). w.desk) same)
well_stopped (lines.action name arguments after) old new step rest (acts, stop, left) =
    well_acted (known.read_action name arguments) old.desk new.desk acts.acts

pub well_gone : (line : List ℕ) (old new : Worker) (step : Step) (rest : List ℕ) → Goes line old step rest new → GoesWell old.desk new.desk
well_gone line old new step rest (left, mid, (front, are, done), stops) =
    let here = well_done front old mid done in
    let there = well_stopped (lines.read_action left) mid new step rest stops in
    λ sound. there (here sound)

-- ---- at a machine

abbrev pub SameJob : Option Job → Option Job → Type 0
SameJob None None = Unit {0}
SameJob None (Some two) = ⊥
SameJob (Some one) None = ⊥
SameJob (Some one) (Some two) = SameDoing one.doing two.doing × (one.rest.items ≡ two.rest.items)

-- Two machines are alike, but for where the texts of what is under way lie in memory.
pub record AreAlike (one two : Scripted) : Type 0 where
  pub worker : worker_of one ≡ worker_of two
  pub gone : one.telling.gone ≡ two.telling.gone
  pub told : one.telling.lines ≡ two.telling.lines
  pub job : SameJob one.job two.job

no_jobs : (one two : Option Job) → one ≡ None → two ≡ None → SameJob one two
no_jobs one two is so = subst (λ (j : Option Job). SameJob j two) (sym is) (subst (λ (j : Option Job). SameJob None j) (sym so) tt)

kept_alike : (doing other : Doing) (rest more : List ℕ) (one two : Option Job) → SameDoing doing other → rest ≡ more → IsKept doing rest one → IsKept other more two
    → SameJob one two
kept_alike doing other rest more None two same left p q = absurd p
kept_alike doing other rest more (Some one) None same left p q = absurd q
kept_alike doing other rest more (Some one) (Some two) same left (is, stays) (so, keeps) =
    (subst (λ (d : Doing). SameDoing d two.doing) (sym is) (subst (λ (d : Doing). SameDoing doing d) (sym so) same), stays ∙ left ∙ sym keeps)

-- what an answer tells
telling_once : (w : Worked) (said : List ℕ) (outcome : Outcome) (text other : List ℕ) → IsSound w → TellsAnswer w said outcome text
    → TellsAnswer w said outcome other → text ≡ other
telling_once w said outcome text other sound (v, shows, is) (u, shown, so) =
    is ∙ ap (λ (p : Picture). said ++ (status_line p (link_in w []) (model_number (device_in w).model) ++ last_line outcome))
    (part_of (λ (state : TerminalState). state.terminal) w v u sound shows shown) ∙ sym so

lines_told : (w : Worked) (said : List ℕ) (outcome : Outcome) (old was new also : Scripted) → IsSound w → old.telling.lines ≡ was.telling.lines
    → TellsOf w said outcome old new → TellsOf w said outcome was also → new.telling.lines ≡ also.telling.lines
lines_told w said outcome old was new also sound same ((text, grows, tells), _) ((other, more, told), _) =
    grows ∙ ap (λ z. z ++ text) same ∙ ap (λ z. was.telling.lines ++ z) (telling_once w said outcome text other sound tells told) ∙ sym more

-- what a step that stops a line makes of machines that are alike
pub record StopAlike (wants wanted : Wants) (new also : Scripted) : Type 0 where
  pub next : wants ≡ wanted
  pub worker : worker_of new ≡ worker_of also
  pub told : new.telling.lines ≡ also.telling.lines
  pub job : SameJob new.job also.job

pub stop_once : (w : Worker) (step another : Step) (rest more : List ℕ) (old was : Scripted) (wants wanted : Wants) (new also : Scripted) → IsSound w.desk
    → SameStep step another → SameRest step rest more → old.telling.lines ≡ was.telling.lines → StopsWith w step rest old wants new
    → StopsWith w another more was wanted also → StopAlike wants wanted new also
stop_once w (Waits doing need) (Waits other needed) rest more old was wants wanted new also sound (same, needs) left told (is, kept, worker, telling) (so, keeps, works, tells) =
    record {
      next = is ∙ ap Need needs ∙ sym so;
      worker = worker ∙ sym works;
      told = ap (λ (t : Telling). t.lines) telling ∙ told ∙ sym (ap (λ (t : Telling). t.lines) tells);
      job = kept_alike doing other rest more new.job also.job same left kept keeps;
    }
stop_once w (Waits doing need) (Ended outcome) rest more old was wants wanted new also sound same left told p q = absurd cc
stop_once w (Waits doing need) Quits rest more old was wants wanted new also sound same left told p q = absurd cc
stop_once w (Ended outcome) another rest more old was wants wanted new also sound same left told (is, none, tells, worker) q =
    let (so, no_job, telling, works) = subst (λ (s : Step). StopsWith w s more was wanted also) (sym same) q in
    record {
      next = is ∙ sym so;
      worker = worker ∙ sym works;
      told = lines_told w.desk w.saying outcome old was new also sound told tells telling;
      job = no_jobs new.job also.job none no_job;
    }
stop_once w Quits another rest more old was wants wanted new also sound same left told (is, none, tells, worker) q =
    let (so, no_job, telling, works) = subst (λ (s : Step). StopsWith w s more was wanted also) (sym same) q in
    record {
      next = is ∙ sym so;
      worker = worker ∙ sym works;
      told = lines_told w.desk w.saying outcomes.Done old was new also sound told tells telling;
      job = no_jobs new.job also.job none no_job;
    }

-- how well a step leaves a machine
pub well_stop : (w : Worker) (step : Step) (rest : List ℕ) (old : Scripted) (wants : Wants) (new : Scripted) → StopsWith w step rest old wants new
    → GoesWell w.desk new.desk
well_stop w (Waits doing need) rest old wants new (is, kept, worker, told) = well_same w.desk new.desk (ap (λ (v : Worker). v.desk) worker)
well_stop w (Ended outcome) rest old wants new (is, none, tells, worker) = well_same w.desk new.desk (ap (λ (v : Worker). v.desk) worker)
well_stop w Quits rest old wants new (is, none, tells, worker) =
    well_closed w.desk new.desk (ap (λ (v : Worker). v.desk) worker)

pub performs_once : (line : List ℕ) (w : Worker) (old was : Scripted) (wants wanted : Wants) (new also : Scripted) → IsSound w.desk
    → old.telling.lines ≡ was.telling.lines → Performs line w old wants new → Performs line w was wanted also → StopAlike wants wanted new also
performs_once line w old was wants wanted new also sound told (step, rest, mid, goes, stops) (another, more, between, went, halts) =
    let same = goes_once line w mid between step another rest more sound goes went in
    stop_once mid step another rest more old was wants wanted new also (well_gone line w mid step rest goes sound) same.0 same.1 told stops
    (subst (λ (v : Worker). StopsWith v another more was wanted also) (sym same.2) halts)

pub well_performed : (line : List ℕ) (w : Worker) (old : Scripted) (wants : Wants) (new : Scripted) → Performs line w old wants new → GoesWell w.desk new.desk
well_performed line w old wants new (step, rest, mid, goes, stops) =
    let here = well_gone line w mid step rest goes in
    let there = well_stop mid step rest old wants new stops in
    λ sound. there (here sound)

-- after a step of an action that waited
pub goes_on_once : (w : Worker) (step another : Step) (rest more : List ℕ) (old was : Scripted) (wants wanted : Wants) (new also : Scripted)
    → IsSound w.desk → SameStep step another → rest ≡ more → old.telling.lines ≡ was.telling.lines → GoesOnWith step rest w old wants new
    → GoesOnWith another more w was wanted also → StopAlike wants wanted new also
goes_on_once w (Waits doing need) (Waits other needed) rest more old was wants wanted new also sound same left told p q =
    stop_once w (Waits doing need) (Waits other needed) rest more old was wants wanted new also sound same left told p q
goes_on_once w (Waits doing need) (Ended outcome) rest more old was wants wanted new also sound same left told p q = absurd cc
goes_on_once w (Waits doing need) Quits rest more old was wants wanted new also sound same left told p q = absurd cc
goes_on_once w Quits another rest more old was wants wanted new also sound same left told p q =
    stop_once w Quits Quits rest more old was wants wanted new also sound refl tt told p
    (subst (λ (s : Step). GoesOnWith s more w was wanted also) (sym same) q)
goes_on_once w (Ended outcomes.Failed) another rest more old was wants wanted new also sound same left told p q =
    stop_once w (Ended outcomes.Failed) (Ended outcomes.Failed) rest more old was wants wanted new also sound refl tt told p
    (subst (λ (s : Step). GoesOnWith s more w was wanted also) (sym same) q)
goes_on_once w (Ended outcomes.Done) another rest more old was wants wanted new also sound same left told p q =
    performs_once rest w old was wants wanted new also sound told p
    (subst (λ (z : List ℕ). Performs z w was wanted also) (sym left) (subst (λ (s : Step). GoesOnWith s more w was wanted also) (sym same) q))

pub well_gone_on : (step : Step) (rest : List ℕ) (w : Worker) (old : Scripted) (wants : Wants) (new : Scripted) → GoesOnWith step rest w old wants new
    → GoesWell w.desk new.desk
well_gone_on (Waits doing need) rest w old wants new stops = well_stop w (Waits doing need) rest old wants new stops
well_gone_on Quits rest w old wants new stops = well_stop w Quits rest old wants new stops
well_gone_on (Ended outcomes.Failed) rest w old wants new stops = well_stop w (Ended outcomes.Failed) rest old wants new stops
well_gone_on (Ended outcomes.Done) rest w old wants new performs = well_performed rest w old wants new performs

-- a line that begins
pub begins_once : (b : Bool) (line : List ℕ) (old was : Scripted) (wants wanted : Wants) (new also : Scripted) → IsSound old.desk
    → worker_of old ≡ worker_of was → old.telling.lines ≡ was.telling.lines → BeginsLine b line old wants new → BeginsLine b line was wanted also
    → StopAlike wants wanted new also
begins_once true line old was wants wanted new also sound same told p q =
    stop_once (worker_of old) (Waits Arriving Arrived) (Waits Arriving Arrived) line line old was wants wanted new also sound (refl, refl) refl told p
    (subst (λ (w : Worker). StopsWith w (Waits Arriving Arrived) line was wanted also) (sym same) q)
begins_once false line old was wants wanted new also sound same told p q =
    performs_once line (worker_of old) old was wants wanted new also sound told p (subst (λ (w : Worker). Performs line w was wanted also) (sym same) q)

pub well_begun : (b : Bool) (line : List ℕ) (old : Scripted) (wants : Wants) (new : Scripted) → BeginsLine b line old wants new → GoesWell old.desk new.desk
well_begun true line old wants new stops = well_stop (worker_of old) (Waits Arriving Arrived) line old wants new stops
well_begun false line old wants new performs = well_performed line (worker_of old) old wants new performs
