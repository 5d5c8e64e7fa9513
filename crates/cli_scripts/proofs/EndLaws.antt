-- Why a script is over, from its parts.
use Rattle.std.proofs.Common.{◌≡◌, ℕ, Bool, true, false, List, length, Ok, Err, sym, ◌∙◌, subst, inl, inr, arith}
use Rattle.std.specs.Prelude.{Option, Result}
use Rattle.cli_commands.specs.Causes.{HasFailed, SendsBy, ToldBy}
use Rattle.cli_commands.specs.Fault.{IsNoFault}
use Rattle.cli_commands.specs.declared.fault.CommandError.{CommandError}
use Rattle.cli_commands.specs.declared.fault.CommandError.TheVariants.{Fault, ReadFailed, OutOfMemory}
use Rattle.cli_commands.specs.declared.status.Status.{Status}
use Rattle.cli_commands.specs.declared.status.Status.TheVariants.{Done, Findings, BadInput, Failed, NoMemory}
use Rattle.cli_scripts.specs.declared.came.Wants.{Wants}
use Rattle.cli_scripts.specs.declared.run.Ended.{Ended}
use Rattle.cli_scripts.specs.declared.run.Ended.TheVariants as ended
use Rattle.cli_scripts.specs.declared.run.Finish.{Finish}
use Rattle.cli_scripts.specs.Ends.{ConcludesBy, EndsSo, Failures, GivesUp, NoneFails, ReadsBy, ReportsBy, StaysTold, StopsBy, WorksUpTo, failures_of}
use Rattle.cli_scripts.specs.Judged.{ended_by}
use Rattle.cli_scripts.specs.Machines.{Scripted}
use Rattle.cli_scripts.specs.Runs.{Goes}

-- a read of the script that gave something failed nothing
pub read_on : {A : Type 0} (old new : ℕ) (result : Result A Ended) (given : A) → result ≡ Ok given → ReadsBy old new result → new ≡ old
read_on old new result given is reads = subst (ReadsBy old new) is reads

pub stops_by : {A : Type 0} (old new : ℕ) (result : Result A Ended) (why : Ended) → result ≡ Err why → ReadsBy old new result → StopsBy old new why
stops_by old new result why is reads = subst (ReadsBy old new) is reads

-- an error of a read stops the script by that
pub stops_reading : (old new : ℕ) (error : CommandError) → IsNoFault error → ToldBy {A = Unit {0}} old new (Err error) → StopsBy old new (ended_by error)
stops_reading old new (Fault fault) never told = absurd never
stops_reading old new ReadFailed never told = told
stops_reading old new OutOfMemory never told = tt

pub sends_all : (old new : ℕ) (all : Bool) → all ≡ true → SendsBy old new all → new ≡ old
sends_all old new all is sends = subst (SendsBy old new) is sends

-- a count that failed has failed, whatever follows
fails_on : (old mid new : ℕ) → HasFailed old mid → HasFailed mid new → HasFailed old new
fails_on old mid new first then = omega (arith, first, then)

-- whether the report is told, after more of it
pub stays_told : (old mid new : ℕ) (was told : Bool) → StaysTold old mid true was → StaysTold mid new was told → StaysTold old new true told
stays_told old mid new was told (inl (is, same)) (inl (so, still)) = inl (so ∙ is, still ∙ same)
stays_told old mid new was told (inl (is, same)) (inr (so, fails)) = inr (so, subst (λ (n : ℕ). HasFailed n new) same fails)
stays_told old mid new was told (inr (is, failed)) (inl (so, still)) = inr (so ∙ is, subst (HasFailed old) (sym still) failed)
stays_told old mid new was told (inr (is, failed)) (inr (so, fails)) = inr (so, fails_on old mid new failed fails)

-- a turn that gave nothing is the last one, by a read of the script that failed or by want of memory, or at the script's end
pub works_read : (script before after output now report later : ℕ) (first last : Scripted) (why : Ended) → before ≡ script → now ≡ output
    → StopsBy before after why → WorksUpTo (failures_of script output report) (failures_of after now later) first last why
works_read script before after output now report later first last ended.Over same kept stops = (stops ∙ same, kept)
works_read script before after output now report later first last ended.Failed same kept stops =
    inl (subst (λ (n : ℕ). HasFailed n after) same stops)
works_read script before after output now report later first last ended.NoMemory same kept stops = tt

pub works_unwritten : (old new : Failures) (first last : Scripted) (now : ℕ) (all : Bool) → all ≡ false → SendsBy now new.output all
    → now ≡ old.output → GivesUp old new first last
works_unwritten old new first last now all is sends same =
    inr (inl (subst (λ (n : ℕ). HasFailed n new.output) same (subst (SendsBy now new.output) is sends)))

pub works_long : (old new : Failures) (first last : Scripted) (wants : Wants) (known left : Option (List ℕ)) (received received_new : List ℕ)
    (count : ℕ) → (so : Goes first wants last known left received received_new) × (length so.events ≡ count) → count ≡ 18446744073709551615
    → GivesUp old new first last
works_long old new first last wants known left received received_new count (so, is) full = inr (inr (so.events, wants, is ∙ full, so.turns))

reports_told : (old new : ℕ) (told : Bool) (why : Ended) → StaysTold old new true told → ReportsBy old new told why
reports_told old new told ended.Over stays = stays
reports_told old new told ended.Failed stays = stays
reports_told old new told ended.NoMemory stays = tt

pub reports_by : (old new : ℕ) (told : Bool) (why : Ended) (finish : Finish) → finish ≡ record { ended = why; is_told = told }
    → StaysTold old new true told → ReportsBy old new finish.is_told finish.ended
reports_by old new told why finish is stays =
    subst (λ (f : Finish). ReportsBy old new f.is_told f.ended) (sym is) (reports_told old new told why stays)

-- ---- the end of a script by its status

over_told : (old mid new : ℕ) (told good : Bool) (e : Ended) → e ≡ ended.Over → ReportsBy old mid told e → StaysTold mid new told good
    → StaysTold old new true good
over_told old mid new told good e is reports stays = stays_told old mid new told good (subst (ReportsBy old mid told) is reports) stays

told_same : (old new : ℕ) → StaysTold old new true true → new ≡ old
told_same old new (inl (is, same)) = same
told_same old new (inr (is, failed)) = absurd cc

untold_failed : (old new : ℕ) → StaysTold old new true false → HasFailed old new
untold_failed old new (inl (is, same)) = absurd cc
untold_failed old new (inr (is, failed)) = failed

given_up : (old mid new : Failures) (first last : Scripted) → GivesUp old mid first last → new.script ≡ mid.script → new.output ≡ mid.output
    → GivesUp old new first last
given_up old mid new first last (inl failed) script output = inl (subst (HasFailed old.script) (sym script) failed)
given_up old mid new first last (inr (inl failed)) script output = inr (inl (subst (HasFailed old.output) (sym output) failed))
given_up old mid new first last (inr (inr used)) script output = inr (inr used)

none_fails : (old mid new : Failures) (first last : Scripted) (finish : Finish) → WorksUpTo old mid first last finish.ended
    → ReportsBy old.report mid.report finish.is_told finish.ended → finish.ended ≡ ended.Over
    → StaysTold mid.report new.report finish.is_told true → new.script ≡ mid.script → new.output ≡ mid.output → NoneFails old new
none_fails old mid new first last finish works reports is stays script output =
    let over : WorksUpTo old mid first last ended.Over = subst (WorksUpTo old mid first last) is works in (
      script ∙ over.0,
      output ∙ over.1,
      told_same old.report new.report (over_told old.report mid.report new.report finish.is_told true finish.ended is reports stays),
    )

pub ends_so : (old mid new : Failures) (first last : Scripted) (finish : Finish) (status : Status) → WorksUpTo old mid first last finish.ended
    → ReportsBy old.report mid.report finish.is_told finish.ended → ConcludesBy mid.report new.report finish status → new.script ≡ mid.script
    → new.output ≡ mid.output → EndsSo old new first last status
ends_so old mid new first last finish Done works reports (is, stays) script output =
    none_fails old mid new first last finish works reports is stays script output
ends_so old mid new first last finish Findings works reports (is, stays) script output =
    none_fails old mid new first last finish works reports is stays script output
ends_so old mid new first last finish BadInput works reports ends script output = absurd ends
ends_so old mid new first last finish Failed works reports (inl is) script output =
    inr (given_up old mid new first last (subst (WorksUpTo old mid first last) is works) script output)
ends_so old mid new first last finish Failed works reports (inr (is, stays)) script output =
    inl (untold_failed old.report new.report
    (over_told old.report mid.report new.report finish.is_told false finish.ended is reports stays))
ends_so old mid new first last finish NoMemory works reports ends script output = tt
