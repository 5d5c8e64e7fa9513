-- What becomes of a line: its actions are done in turn, up to one that fails, waits or quits.
use Rattle.std.specs.Prelude.{◌≡◌, ℕ, Bool, true, false, is_some, List, [], ◌∷◌, ◌++◌, codes, Option, Some, None, Result}
use Rattle.script_keys.specs.Actions as known
use Rattle.script_keys.specs.Faults.{Fault}
use Rattle.script_lines.specs.Actions as lines
use Rattle.script_screens.specs.declared.lines.Outcome.TheVariants as outcomes
use Rattle.script_screens.specs.Lines.{data_lines, failed}
use Rattle.cli_scripts.specs.Acts.{Acts}
use Rattle.cli_scripts.specs.Answers.{printed_text, syntax_text}
use Rattle.cli_scripts.specs.declared.came.Came.{Came}
use Rattle.cli_scripts.specs.declared.came.Came.TheVariants as came
use Rattle.cli_scripts.specs.declared.came.Need.TheVariants.{Arrived}
use Rattle.cli_scripts.specs.declared.came.Wants.{Wants}
use Rattle.cli_scripts.specs.declared.came.Wants.TheVariants.{Line, Need, Nothing}
use Rattle.cli_scripts.specs.declared.doing.Doing.{Doing}
use Rattle.cli_scripts.specs.declared.doing.Doing.TheVariants.{Arriving}
use Rattle.cli_scripts.specs.declared.doing.Step.{Step}
use Rattle.cli_scripts.specs.declared.doing.Step.TheVariants.{Ended, Quits, Waits}
use Rattle.cli_scripts.specs.declared.machine.Job.{Job}
use Rattle.cli_scripts.specs.declared.worker.Worker.{Worker}
use Rattle.cli_scripts.specs.Keying.{ActsKeys}
use Rattle.cli_scripts.specs.Machines.{Scripted, IsKept, TellsOf}
use Rattle.cli_scripts.specs.Says.{ActsSaying, EndsSaying}
use Rattle.cli_scripts.specs.TypedTexts.{ActsTexts}
use Rattle.cli_scripts.specs.Waits.{ActsWait}
use Rattle.cli_scripts.specs.Workers.{ActsSet, GoesOn, KeepsSet}

-- ---- actions, one after the other

-- all that is said of an action that was done
pub record Acted (action : Result known.Action Fault) (old : Worker) (step : Step) (new : Worker) : Type 0 where
  pub page : new.code_page ≡ old.code_page
  pub set : ActsSet action old new
  pub acts : Acts action old.desk new.desk
  pub waits : ActsWait action old.desk step old.saying new.saying
  pub says : ActsSaying action old step new
  pub keys : ActsKeys action old step new
  pub texts : ActsTexts action old step new

-- a name and arguments
pub record Call : Type 0 where
  pub name : List ℕ
  pub arguments : List (List ℕ)

abbrev pub Calls : Call → Worker → Step → Worker → Type 0
Calls call old step new = Acted (known.read_action call.name call.arguments) old step new

-- a line is of these, and then of this rest
abbrev pub AreCalls : List ℕ → List Call → List ℕ → Type 0
AreCalls line [] rest = line ≡ rest
AreCalls line (call ∷ others) rest =
    (after : List ℕ) × (lines.read_action line ≡ lines.action call.name call.arguments after) × AreCalls after others rest

-- they were done in turn, and each ended well
abbrev pub AreDone : List Call → Worker → Worker → Type 0
AreDone [] old new = new ≡ old
AreDone (call ∷ others) old new = (mid : Worker) × Calls call old (Ended outcomes.Done) mid × AreDone others mid new

-- a front of a line was done so
abbrev pub Did : List ℕ → Worker → List ℕ → Worker → Type 0
Did line old rest new = (front : List Call) × AreCalls line front rest × AreDone front old new

-- ---- where a line stops

-- after this step the next action isn't done
abbrev pub IsStop : Step → Type 0
IsStop (Ended outcomes.Done) = ⊥
IsStop step = Unit {0}

-- At its end it is over; at a fault of syntax it fails; an action that doesn't end well is its last one for now.
abbrev pub StopsBy : lines.Read → Worker → Step → List ℕ → Worker → Type 0
StopsBy lines.ends old step rest new = (step ≡ Ended outcomes.Done) × (new ≡ old)
StopsBy (lines.fault why) old step rest new =
    EndsSaying (failed (syntax_text why)) step old.saying new.saying × (new ≡ record old { saying = new.saying })
StopsBy (lines.action name arguments after) old step rest new =
    Calls (record { name = name; arguments = arguments }) old step new × IsStop step × (rest ≡ after)

-- the actions of a line were done up to this step, after which this rest is left
abbrev pub Goes : List ℕ → Worker → Step → List ℕ → Worker → Type 0
Goes line old step rest new =
    (left : List ℕ) × (mid : Worker) × Did line old left mid × StopsBy (lines.read_action left) mid step rest new

-- ---- at a machine

abbrev pub worker_of : Scripted → Worker
worker_of m = record { desk = m.desk; code_page = m.code_page; settings = m.settings; kept = m.kept; saying = m.saying }

-- An action that waits is kept with what is left of the line; any other ends the line with an answer, and Quit the line to the host.
abbrev pub StopsWith : Worker → Step → List ℕ → Scripted → Wants → Scripted → Type 0
StopsWith w (Waits doing need) rest old wants new =
    (wants ≡ Need need) × IsKept doing rest new.job × (worker_of new ≡ w) × (new.telling ≡ old.telling)
StopsWith w (Ended outcome) rest old wants new =
    (wants ≡ Line) × (new.job ≡ None) × TellsOf w.desk w.saying outcome old new × (worker_of new ≡ record w { saying = [] })
StopsWith w Quits rest old wants new =
    (wants ≡ Nothing) × (new.job ≡ None) × TellsOf w.desk w.saying outcomes.Done old new
    × (worker_of new ≡ record w { saying = []; desk = record w.desk { host = None } })

-- a line is done up to where it stops
abbrev pub Performs : List ℕ → Worker → Scripted → Wants → Scripted → Type 0
Performs line w old wants new =
    (step : Step) × (rest : List ℕ) × (mid : Worker) × Goes line w step rest mid × StopsWith mid step rest old wants new

-- after a step of an action that waited
abbrev pub GoesOnWith : Step → List ℕ → Worker → Scripted → Wants → Scripted → Type 0
GoesOnWith (Ended outcomes.Done) rest w old wants new = Performs rest w old wants new
GoesOnWith step rest w old wants new = StopsWith w step rest old wants new

-- with a host what has arrived of it comes first
abbrev pub BeginsLine : Bool → List ℕ → Scripted → Wants → Scripted → Type 0
BeginsLine true line old wants new = StopsWith (worker_of old) (Waits Arriving Arrived) line old wants new
BeginsLine false line old wants new = Performs line (worker_of old) old wants new

-- what is under way went on by what came
pub record Resumes (doing : Doing) (it : Came) (old : Worker) (step : Step) (new : Worker) : Type 0 where
  pub page : new.code_page ≡ old.code_page
  pub set : KeepsSet old new
  pub goes : GoesOn doing it old step new

-- what came is taken: by what is under way, or as a line that begins
abbrev pub TakesBy : Option Job → Came → Scripted → Wants → Scripted → Type 0
TakesBy (Some job) it old wants new =
    (step : Step) × (mid : Worker) × Resumes job.doing it (worker_of old) step mid × GoesOnWith step job.rest.items mid old wants new
TakesBy None (came.Line line) old wants new = BeginsLine (is_some old.desk.host) line.now old wants new
TakesBy None came.LongLine old wants new =
    StopsWith (record (worker_of old) { saying = old.saying ++ data_lines (printed_text (codes "line too long") ∷ []) }) (Ended outcomes.Failed) []
    old wants new
TakesBy None it old wants new = (wants ≡ Line) × (new ≡ old)
