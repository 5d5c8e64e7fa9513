-- The answers of lines that are over.
use Rattle.std.proofs.Common.{◌≡◌, ◌++◌, ◌∷◌, ℕ, true, List, [], None, Ok, Err, sym, ap, ◌∙◌, subst}
use Rattle.std.specs.Prelude.{Option, Result, IfOk, OnOk, is_some}
use Rattle.std.specs.declared.alloc.AllocError.{AllocError}
use Rattle.script_screens.specs.declared.lines.Outcome.{Outcome}
use Rattle.script_screens.specs.declared.lines.Outcome.TheVariants.{Done}
use Rattle.cli_scripts.specs.declared.came.Wants.{Wants}
use Rattle.cli_scripts.specs.declared.came.Wants.TheVariants.{Line, Need, Nothing}
use Rattle.cli_scripts.specs.declared.machine.Job.{Job}
use Rattle.cli_scripts.specs.declared.worker.Worker.{Worker}
use Rattle.cli_scripts.specs.Answers.{Telling}
use Rattle.cli_scripts.specs.Desks.{Worked}
use Rattle.cli_scripts.specs.Machines.{AnswersSo, Scripted, TellsOf, TellsSo}
use Rattle.cli_scripts.specs.Says.{TellsNext}

-- a machine by its parts
abbrev pub of_parts : Worker → Option Job → Telling → Scripted
of_parts worker job telling = record {
  desk = worker.desk;
  code_page = worker.code_page;
  settings = worker.settings;
  kept = worker.kept;
  saying = worker.saying;
  telling = telling;
  job = job;
  is_busy = is_some job;
}

-- one that ended
pub told_line : (r : Result Wants AllocError) (old new : Scripted) (w : Worked) (said : List ℕ) (before : Telling) (outcome : Outcome)
    → IfOk r (λ wants. wants ≡ Line) → OnOk r (TellsNext w said outcome before new.telling × (new.saying ≡ [])) → new.desk ≡ w → before ≡ old.telling
    → IfOk r (λ wants. TellsSo true old wants new)
told_line (Ok wants) old new w said before outcome is (tells, none) same was =
    subst (λ (z : Wants). TellsSo true old z new) (sym is) (
      said,
      outcome,
      (
        subst (λ (t : Telling). TellsNext new.desk said outcome t new.telling) was
            (subst (λ (v : Worked). TellsNext v said outcome before new.telling) (sym same) tells),
        none,
      ),
    )
told_line (Err why) old new w said before outcome is tells same was = tt

-- one that went on
pub told_after : (r : Result Wants AllocError) (old mid new : Scripted) → mid.telling ≡ old.telling → IfOk r (λ wants. TellsSo true mid wants new)
    → IfOk r (λ wants. TellsSo true old wants new)
told_after (Err why) old mid new before tells = tt
told_after (Ok Line) old mid new before (said, outcome, (tells, none)) =
    (said, outcome, (subst (λ (t : Telling). TellsNext new.desk said outcome t new.telling) before tells, none))
told_after (Ok Nothing) old mid new before (w, said, outcome, (tells, none), closed) =
    (w, said, outcome, (subst (λ (t : Telling). TellsNext w said outcome t new.telling) before tells, none), closed)
told_after (Ok (Need need)) old mid new before same = same ∙ before

-- after Quit
pub told_quit : (old view mid : Scripted) (closed : Worked) → view ≡ mid → mid.desk ≡ old.desk → TellsOf old.desk old.saying Done old mid
    → closed ≡ record view.desk { host = None } → TellsSo true old Nothing (record view { desk = closed })
told_quit old view mid closed same stays tells ends =
    let (told, none) = subst (λ (m : Scripted). TellsOf old.desk old.saying Done old m) (sym same) tells in
    (old.desk, old.saying, Done, (told, none), ends ∙ ap (λ (w : Worked). record w { host = None }) (ap (λ (m : Scripted). m.desk) same ∙ stays))

pub answered_after : (r : Result Wants AllocError) (old mid new : Scripted) → mid.telling ≡ old.telling → IfOk r (λ wants. AnswersSo true mid wants new)
    → IfOk r (λ wants. AnswersSo true old wants new)
answered_after (Err why) old mid new before answers = tt
answered_after (Ok Line) old mid new before ((outcome, is), idle) =
    ((outcome, is ∙ ap (λ (t : Telling). t.outcomes ++ outcome ∷ []) before), idle)
answered_after (Ok Nothing) old mid new before ((outcome, is), idle) =
    ((outcome, is ∙ ap (λ (t : Telling). t.outcomes ++ outcome ∷ []) before), idle)
answered_after (Ok (Need need)) old mid new before (same, busy) = (same ∙ ap (λ (t : Telling). t.outcomes) before, busy)
