-- What an action says hangs on the screen, the connection, the settings and what was kept alone.
use Rattle.std.specs.Prelude.{◌≡◌, Option, Some, None, Result, Ok}
use Rattle.script_keys.specs.Actions.{Action, keys, other}
use Rattle.script_keys.specs.Faults.{Fault}
use Rattle.script_screens.specs.declared.lines.Outcome.{Outcome}
use Rattle.cli_scripts.specs.declared.doing.Step.{Step}
use Rattle.cli_scripts.specs.declared.doing.Step.TheVariants.{Ended}
use Rattle.cli_scripts.specs.declared.kind.Kind.{Kind}
use Rattle.cli_scripts.specs.declared.kind.Kind.TheVariants as kinds
use Rattle.cli_scripts.specs.declared.worker.Worker.{Worker}
use Rattle.cli_scripts.specs.DeedLaws.{IsFed}
use Rattle.cli_scripts.specs.Desks.{Worked}
use Rattle.cli_scripts.specs.Kinds.{kind_of}
use Rattle.cli_scripts.specs.Says.{ActsSaying}

-- a worker whose terminal differs in what was done, heard and handed out, and in whether its screens are judged
abbrev pub beside : Worker → Worked → Worker
beside one w = record one {
  desk = record w { device = one.desk.device; talk = one.desk.talk; host = one.desk.host; was_read = one.desk.was_read };
}

-- an action that neither presses keys nor waits
abbrev pub IsTold : Kind → Type 0
IsTold kinds.Types = ⊥
IsTold kinds.TypesKey = ⊥
IsTold kinds.Waits = ⊥
IsTold kind = Unit {0}

abbrev pub OnlySays : Result Action Fault → Type 0
OnlySays (Ok (keys it)) = ⊥
OnlySays (Ok (other name arguments)) = IsTold (kind_of name)
OnlySays action = Unit {0}

-- how it ended, where it did
abbrev pub outcome_of : Step → Option Outcome
outcome_of (Ended outcome) = Some outcome
outcome_of step = None

-- Two workers that are alike but for what was done, heard and handed out and for whether screens are judged say the same of an action that neither
-- presses keys nor waits, and end it alike, also after their session failed; where memory was not refused to it.
abbrev pub SayingAgrees : Type 0
SayingAgrees =
    (action : Result Action Fault) (one new other_new : Worker) (w : Worked) (step other_step : Step) → OnlySays action
    → IsFed one.desk.talk → ActsSaying action one step new → ActsSaying action (beside one w) other_step other_new
    → (new.saying ≡ other_new.saying) × (outcome_of step ≡ outcome_of other_step)
