-- What becomes of a line that begins or goes on.
use Rattle.std.proofs.Common.{◌≡◌, ◌++◌, ◌∷◌, ℕ, List, [], None, Ok, Err, codes, sym, ap, ◌∙◌, subst}
use Rattle.std.specs.Prelude.{Option, Some, Result, IfOk, OnOk}
use Rattle.std.specs.declared.alloc.AllocError.{AllocError}
use Rattle.std.proofs.lemmas.List.{append-nil}
use Rattle.script_screens.specs.declared.lines.Outcome.TheVariants as outcomes
use Rattle.script_screens.specs.Lines.{data_line, data_lines}
use Rattle.cli_scripts.specs.Answers.{Telling, printed_text}
use Rattle.cli_scripts.specs.declared.came.Came.{Came}
use Rattle.cli_scripts.specs.declared.came.Came.TheVariants as came
use Rattle.cli_scripts.specs.declared.came.Wants.{Wants}
use Rattle.cli_scripts.specs.declared.came.Wants.TheVariants.{Line}
use Rattle.cli_scripts.specs.declared.doing.Step.{Step}
use Rattle.cli_scripts.specs.declared.doing.Step.TheVariants.{Ended, Quits, Waits}
use Rattle.cli_scripts.specs.declared.machine.Job.{Job}
use Rattle.cli_scripts.specs.declared.worker.Worker.{Worker}
use Rattle.cli_scripts.specs.Machines.{Scripted}
use Rattle.cli_scripts.specs.Performs.{Goes, GoesOnWith, Performs, Resumes, StopsWith, TakesBy, worker_of}
use Rattle.cli_scripts.specs.Says.{TellsNext}
use Rattle.cli_scripts.proofs.LineEnds.{of_parts}

-- of a machine before it the answers alone are looked at
stops_after : (w : Worker) (step : Step) (rest : List ℕ) (was old : Scripted) (wants : Wants) (new : Scripted) → was.telling ≡ old.telling
    → StopsWith w step rest was wants new → StopsWith w step rest old wants new
stops_after w (Waits doing need) rest was old wants new same (is, kept, worker, told) = (is, kept, worker, told ∙ same)
stops_after w (Ended outcome) rest was old wants new same (is, none, (tells, said), worker) =
    (is, none, (subst (λ (t : Telling). TellsNext w.desk w.saying outcome t new.telling) same tells, said), worker)
stops_after w Quits rest was old wants new same (is, none, (tells, said), worker) =
    (is, none, (subst (λ (t : Telling). TellsNext w.desk w.saying outcomes.Done t new.telling) same tells, said), worker)

goes_after : (w : Worker) (step : Step) (rest : List ℕ) (was old : Scripted) (wants : Wants) (new : Scripted) → was.telling ≡ old.telling
    → GoesOnWith step rest w was wants new → GoesOnWith step rest w old wants new
goes_after w (Waits doing need) rest was old wants new same stops = stops_after w (Waits doing need) rest was old wants new same stops
goes_after w Quits rest was old wants new same stops = stops_after w Quits rest was old wants new same stops
goes_after w (Ended outcomes.Failed) rest was old wants new same stops = stops_after w (Ended outcomes.Failed) rest was old wants new same stops
goes_after w (Ended outcomes.Done) rest was old wants new same (step, left, mid, goes, stops) =
    (step, left, mid, goes, stops_after mid step left was old wants new same stops)

pub performed : (r : Result Wants AllocError) (line : List ℕ) (w mid : Worker) (step : Step) (rest : List ℕ) (old was new : Scripted) → w ≡ worker_of old
    → was.telling ≡ old.telling → Goes line w step rest mid → IfOk r (λ wants. StopsWith mid step rest was wants new)
    → IfOk r (λ wants. Performs line (worker_of old) old wants new)
performed (Err why) line w mid step rest old was new is same goes stops = tt
performed (Ok wants) line w mid step rest old was new is same goes stops =
    (step, rest, mid, subst (λ (z : Worker). Goes line z step rest mid) is goes, stops_after mid step rest was old wants new same stops)

-- a line that is too long
pub took_long : (r : Result Wants AllocError) (worker : Worker) (answers : Telling) (job : Option Job) (said : List ℕ) (old new : Scripted)
    → of_parts worker job answers ≡ old → old.job ≡ None → said ≡ worker.saying ++ data_line (printed_text (codes "line too long"))
    → IfOk r (λ wants. wants ≡ Line) → new.job ≡ job
    → OnOk r (TellsNext worker.desk said outcomes.Failed answers new.telling × (new.saying ≡ []))
    → OnOk r (worker_of new ≡ record worker { saying = [] }) → IfOk r (λ wants. TakesBy None came.LongLine old wants new)
took_long (Err why) worker answers job said old new view none is wants kept tells rests = tt
took_long (Ok it) worker answers job said old new view none is wants kept (tells, empty) rests =
    let grown : said ≡ old.saying ++ data_lines (printed_text (codes "line too long") ∷ []) =
    is ∙ ap (λ (m : Scripted). m.saying ++ data_line (printed_text (codes "line too long"))) view
    ∙ ap (λ z. old.saying ++ z) (sym (append-nil (data_line (printed_text (codes "line too long"))))) in (
      wants,
      kept ∙ ap (λ (m : Scripted). m.job) view ∙ none,
      (
        subst (λ (z : List ℕ). TellsNext old.desk z outcomes.Failed old.telling new.telling) grown
            (subst (λ (m : Scripted). TellsNext m.desk said outcomes.Failed m.telling new.telling) view tells),
        empty,
      ),
      rests ∙ ap (λ (m : Scripted). record (worker_of m) { saying = [] }) view,
    )

-- what is under way went on
pub took_on : (r : Result Wants AllocError) (job : Job) (it : Came) (w mid : Worker) (step : Step) (rest : List ℕ) (old was new : Scripted)
    → old.job ≡ Some job → w ≡ worker_of old → rest ≡ job.rest.items → was.telling ≡ old.telling → Resumes job.doing it w step mid
    → IfOk r (λ wants. GoesOnWith step rest mid was wants new) → IfOk r (λ wants. TakesBy old.job it old wants new)
took_on (Err why) job it w mid step rest old was new is same left told resumes goes = tt
took_on (Ok wants) job it w mid step rest old was new is same left told resumes goes =
    subst (λ (j : Option Job). TakesBy j it old wants new) (sym is) (
      step,
      mid,
      subst (λ (z : Worker). Resumes job.doing it z step mid) same resumes,
      subst (λ (z : List ℕ). GoesOnWith step z mid old wants new) left (goes_after mid step rest was old wants new told goes),
    )
