-- What a judge says of the screens on which keys sent, in turn.
use Rattle.std.specs.Prelude.{◌≡◌, ℕ, Bool, true, false, List, [], ◌∷◌, ◌++◌, Option}
use Rattle.std.specs.Bool.{OnTrue}
use Rattle.std.specs.Io.KnownBytes.{Appends}
use Rattle.script_checks.specs.Forms.{due_at_the_end}
use Rattle.script_checks.specs.Report.{Judging, judging_after, report_due}
use Rattle.cli_commands.specs.declared.fault.CommandError.{CommandError}
use Rattle.cli_commands.specs.declared.fault.CommandError.TheVariants.{Fault, ReadFailed, OutOfMemory}
use Rattle.cli_commands.specs.declared.status.Status.{Status}
use Rattle.cli_commands.specs.declared.status.Status.TheVariants.{Done, Findings, Failed, NoMemory}
use Rattle.cli_scripts.specs.declared.run.Ended.{Ended}
use Rattle.cli_scripts.specs.declared.run.Finish.{Finish}
use Rattle.cli_scripts.specs.declared.run.Ended.TheVariants.{Over}
use Rattle.cli_scripts.specs.declared.run.Ended.TheVariants as ended
use Rattle.cli_scripts.specs.Desks.{Worked}
use Rattle.cli_scripts.specs.SentOn.{SentOn}

-- the judge after these screens
abbrev pub judged_all : Judging → List SentOn → Judging
judged_all judging [] = judging
judged_all judging (screen ∷ screens) = judged_all (judging_after judging screen.picture screen.turns) screens

-- what it reports of them
abbrev pub reports_of : Judging → List SentOn → List ℕ
reports_of judging [] = []
reports_of judging (screen ∷ screens) =
    report_due judging screen.picture screen.turns ++ reports_of (judging_after judging screen.picture screen.turns) screens

-- what it adds at the end
abbrev pub end_of_report : Judging → List ℕ
end_of_report judging = due_at_the_end judging.format judging.totals judging.cases

-- screens that were handed out were judged, and, unless a write failed, what is reported of them was written
pub record Judges (old new : Worked) (judging judging_new : Judging) (told : Bool) (written written_new : Option (List ℕ)) : Type 0 where
  pub screens : List SentOn
  pub handed : new.judged ≡ old.judged ++ screens
  pub collects : new.collects ≡ old.collects
  pub after : judging_new ≡ judged_all judging screens
  pub reported : OnTrue told (Appends written written_new (reports_of judging screens))

-- all screens were judged, each once, and all that is reported of them was written, with the report's end
pub record JudgesAll (old new : Worked) (judging judging_new : Judging) (written written_new : Option (List ℕ)) : Type 0 where
  pub screens : List SentOn
  pub handed : new.judged ≡ old.judged ++ screens
  pub all : new.unjudged ≡ []
  pub collects : new.collects ≡ old.collects
  pub after : judging_new ≡ judged_all judging screens
  pub reported : Appends written written_new (reports_of judging screens ++ end_of_report judging_new)

-- how a script ends by an error of a read of its lines
abbrev pub ended_by : CommandError → Ended
ended_by OutOfMemory = ended.NoMemory
ended_by ReadFailed = ended.Failed
ended_by (Fault fault) = ended.Failed

-- the status of a script that is over, by whether the report was written and a screen had findings
abbrev pub judged_status : Ended → Bool → Bool → Status
judged_status Over true true = Findings
judged_status Over true false = Done
judged_status Over false has_findings = Failed
judged_status ended.Failed told has_findings = Failed
judged_status ended.NoMemory told has_findings = NoMemory

-- the script ended, or was told to
abbrev pub IsOver : Status → Type 0
IsOver Done = Unit {0}
IsOver Findings = Unit {0}
IsOver status = ⊥

-- by its status a script was over, and a screen had findings or none had
abbrev pub HasFindings : Status → Bool → Type 0
HasFindings Findings has_findings = has_findings ≡ true
HasFindings Done has_findings = has_findings ≡ false
HasFindings status has_findings = ⊥

-- the script was over, no write of the report failed, and its end was written
abbrev pub Concludes : Judging → Status → Finish → Option (List ℕ) → Option (List ℕ) → Type 0
Concludes judging status finish written written_new =
    (finish.ended ≡ Over) × (finish.is_told ≡ true) × HasFindings status judging.has_findings × Appends written written_new (end_of_report judging)
