-- Why a script is over: it ended, or was told to; a call of one of its streams failed, which counts it; as many turns were made as are counted; or
-- memory was refused.
use Rattle.std.specs.Prelude.{◌≡◌, ◌⊎◌, ◌-◌, ◌^◌, ℕ, Bool, true, false, List, length, Result, Ok, Err}
use Rattle.cli_commands.specs.Causes.{HasFailed}
use Rattle.cli_commands.specs.declared.status.Status.{Status}
use Rattle.cli_commands.specs.declared.status.Status.TheVariants.{Done, Findings, BadInput, Failed, NoMemory}
use Rattle.cli_scripts.specs.declared.came.Wants.{Wants}
use Rattle.cli_scripts.specs.declared.came.Wants.TheVariants as wanted
use Rattle.cli_scripts.specs.declared.run.Ended.{Ended}
use Rattle.cli_scripts.specs.declared.run.Ended.TheVariants as ended
use Rattle.cli_scripts.specs.declared.run.Finish.{Finish}
use Rattle.cli_scripts.specs.Machines.{Scripted}
use Rattle.cli_scripts.specs.Runs.{Event, Turns}

-- ---- one stream

-- no read of the script failed, or it is given up since one did
abbrev pub StopsBy : ℕ → ℕ → Ended → Type 0
StopsBy old new ended.Over = new ≡ old
StopsBy old new ended.Failed = HasFailed old new
StopsBy old new ended.NoMemory = Unit {0}

abbrev pub ReadsBy : {A : Type 0} → ℕ → ℕ → Result A Ended → Type 0
ReadsBy old new (Ok given) = new ≡ old
ReadsBy old new (Err why) = StopsBy old new why

-- whether no write of the report has failed is as before, and none did; or one did
abbrev pub StaysTold : ℕ → ℕ → Bool → Bool → Type 0
StaysTold old new before told = ((told ≡ before) × (new ≡ old)) ⊎ ((told ≡ false) × HasFailed old new)

-- ---- all of them

-- how many calls failed of the script, of the tool's stream, and of the report
pub record Failures : Type 0 where
  pub script : ℕ
  pub output : ℕ
  pub report : ℕ

abbrev pub failures_of : ℕ → ℕ → ℕ → Failures
failures_of script output report = record { script = script; output = output; report = report }

-- 18,446,744,073,709,551,615 turns were made
abbrev pub UsesTurnsUp : Scripted → Scripted → Type 0
UsesTurnsUp old new = (events : List Event) × (last : Wants) × (length events ≡ 2 ^ 64 - 1) × Turns events wanted.Line old last new

-- the script is given up by one of these
abbrev pub GivesUp : Failures → Failures → Scripted → Scripted → Type 0
GivesUp old new first last = HasFailed old.script new.script ⊎ (HasFailed old.output new.output ⊎ UsesTurnsUp first last)

-- the terminal was worked up to such an end
abbrev pub WorksUpTo : Failures → Failures → Scripted → Scripted → Ended → Type 0
WorksUpTo old new first last ended.Over = (new.script ≡ old.script) × (new.output ≡ old.output)
WorksUpTo old new first last ended.Failed = GivesUp old new first last
WorksUpTo old new first last ended.NoMemory = Unit {0}

-- no call failed
abbrev pub NoneFails : Failures → Failures → Type 0
NoneFails old new = (new.script ≡ old.script) × (new.output ≡ old.output) × (new.report ≡ old.report)

-- A script that is over had no call that failed; one that failed is given up, or a write of its report failed. Nothing else ends it but want of memory.
abbrev pub EndsSo : Failures → Failures → Scripted → Scripted → Status → Type 0
EndsSo old new first last Done = NoneFails old new
EndsSo old new first last Findings = NoneFails old new
EndsSo old new first last BadInput = ⊥
EndsSo old new first last Failed = HasFailed old.report new.report ⊎ GivesUp old new first last
EndsSo old new first last NoMemory = Unit {0}

-- ---- for the code's own proofs

-- whether the report was told so far, unless memory was refused
abbrev pub ReportsBy : ℕ → ℕ → Bool → Ended → Type 0
ReportsBy old new told ended.Over = StaysTold old new true told
ReportsBy old new told ended.Failed = StaysTold old new true told
ReportsBy old new told ended.NoMemory = Unit {0}

-- the report's end was written, or a script that is over is told as one that failed since a write of the report did
abbrev pub ConcludesBy : ℕ → ℕ → Finish → Status → Type 0
ConcludesBy old new finish Done = (finish.ended ≡ ended.Over) × StaysTold old new finish.is_told true
ConcludesBy old new finish Findings = (finish.ended ≡ ended.Over) × StaysTold old new finish.is_told true
ConcludesBy old new finish BadInput = ⊥
ConcludesBy old new finish Failed = (finish.ended ≡ ended.Failed) ⊎ ((finish.ended ≡ ended.Over) × StaysTold old new finish.is_told false)
ConcludesBy old new finish NoMemory = Unit {0}
