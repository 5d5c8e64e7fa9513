-- Why a command gives up, from its parts.
use Rattle.std.proofs.Common.{◌≡◌, ℕ, zero, suc, Bool, true, false, ◌+◌, ◌<◌, List, [], ◌∷◌, length, get_or, Option, Some, None, Result, Ok, Err, sym, ap, subst, inl, inr, arith}
use Rattle.std.proofs.Math.ListN.{set}
use Rattle.std.specs.Prelude.{IfSome, IfErr}
use Rattle.cli_commands.specs.declared.fault.Fault.{Fault}
use Rattle.cli_commands.specs.declared.fault.CommandError.{CommandError}
use Rattle.cli_commands.specs.declared.fault.CommandError.TheVariants.{Fault as Told, ReadFailed, OutOfMemory}
use Rattle.cli_commands.specs.declared.output.answer.Answer.{Answer}
use Rattle.cli_commands.specs.declared.status.Status.{Status}
use Rattle.cli_commands.specs.declared.status.Status.TheVariants.{Done, Findings, BadInput, Failed, NoMemory}
use Rattle.cli_commands.specs.Causes.{HasFailed, FailsBy, ToldBy, ReadsNothing, SendsBy, WritesBy, FinishesBy, EndsBy, all_failures}
use Rattle.cli_commands.specs.Fault.{Gives, GivesOrFails}
use Rattle.cli_commands.specs.Held.{answer_seen}
use Rattle.cli_commands.specs.Printed.{Printed, printed_or_fault}
use Rattle.cli_commands.specs.Taking.{told_then}

-- ---- what is read

-- what reads nothing gives no read that failed
pub gives_unread : {A T : Type 0} (view : T → A) (result : Result T CommandError) (due : Result A Fault) → Gives view result due → IfErr result ReadsNothing
gives_unread view (Ok found) due is = tt
gives_unread view (Err (Told fault)) due is = tt
gives_unread view (Err ReadFailed) due is = is
gives_unread view (Err OutOfMemory) due is = tt

-- the same of a change of what is told
pub then_unread : {A T : Type 0} (view : T → A) (told : T) (result : Result (Unit {0}) CommandError) (due : Result A Fault) → Gives view (told_then told result) due → IfErr result ReadsNothing
then_unread view told (Ok done) due is = tt
then_unread view told (Err (Told fault)) due is = tt
then_unread view told (Err ReadFailed) due is = is
then_unread view told (Err OutOfMemory) due is = tt

pub unread_fails : (old new : ℕ) (error : CommandError) → ReadsNothing error → new ≡ old → FailsBy old new error
unread_fails old new (Told fault) is same = same
unread_fails old new ReadFailed is same = absurd is
unread_fails old new OutOfMemory is same = tt

-- nothing was read after what was
pub gives_told : {A T : Type 0} (old new : ℕ) (view : T → A) (result : Result T CommandError) (due : Result A Fault) → Gives view result due → new ≡ old → ToldBy old new result
gives_told old new view (Ok found) due is same = same
gives_told old new view (Err (Told fault)) due is same = same
gives_told old new view (Err ReadFailed) due is same = absurd is
gives_told old new view (Err OutOfMemory) due is same = tt

-- what was read of one stream, and then of another
pub first_fails : (a a' b b' : ℕ) (error : CommandError) → FailsBy a a' error → b' ≡ b → FailsBy (a + b) (a' + b') error
first_fails a a' b b' (Told fault) is same = omega arith
first_fails a a' b b' ReadFailed is same = omega arith
first_fails a a' b b' OutOfMemory is same = tt

then_fails : (a a' b b' : ℕ) (error : CommandError) → a' ≡ a → FailsBy b b' error → FailsBy (a + b) (a' + b') error
then_fails a a' b b' (Told fault) same is = omega arith
then_fails a a' b b' ReadFailed same is = omega arith
then_fails a a' b b' OutOfMemory same is = tt

pub then_told : {T : Type 0} (a a' b b' : ℕ) (result : Result T CommandError) → a' ≡ a → ToldBy b b' result → ToldBy (a + b) (a' + b') result
then_told a a' b b' (Ok found) same is = omega arith
then_told a a' b b' (Err error) same is = then_fails a a' b b' error same is

-- a stream on which no read failed before
pub fails_on : (old mid new : ℕ) (error : CommandError) → mid ≡ old → FailsBy mid new error → FailsBy old new error
fails_on old mid new error same is = subst (λ (n : ℕ). FailsBy n new error) same is

pub told_on : {T : Type 0} (old mid new : ℕ) (result : Result T CommandError) → mid ≡ old → ToldBy mid new result → ToldBy old new result
told_on old mid new result same is = subst (λ (n : ℕ). ToldBy n new result) same is

-- ---- the end of a command

pub sent : (old new : ℕ) (all : Bool) → all ≡ true → SendsBy old new all → new ≡ old
sent old new all is by = rw is at by

pub unsent : (old new : ℕ) (all : Bool) → all ≡ false → SendsBy old new all → HasFailed old new
unsent old new all is by = rw is at by

ends_due : (old new : ℕ) (due status : Status) → status ≡ due → new ≡ old → EndsBy old new due status
ends_due old new due Done is same = (is, same)
ends_due old new due Findings is same = (is, same)
ends_due old new due BadInput is same = (is, same)
ends_due old new due Failed is same = inl (sym is, same)
ends_due old new due NoMemory is same = tt

ends_failed : (old new : ℕ) (due status : Status) → status ≡ Failed → HasFailed old new → EndsBy old new due status
ends_failed old new due status is some = rw is (inr some)

ends_wanting : (old new : ℕ) (due status : Status) → status ≡ NoMemory → EndsBy old new due status
ends_wanting old new due status is = rw is tt

pub writes_ends : (a a' b b' : ℕ) (due status : Status) → a' ≡ a → WritesBy b b' due status → EndsBy (a + b) (a' + b') due status
writes_ends a a' b b' due status same (inl (is, sent)) = ends_due (a + b) (a' + b') due status is (omega arith)
writes_ends a a' b b' due status same (inr (is, some)) = ends_failed (a + b) (a' + b') due status is (omega arith)

-- an error while texts were written in pieces, after what none failed before
pub stops_on : (old mid new : ℕ) (due status : Status) → mid ≡ old → EndsBy mid new due status → EndsBy old new due status
stops_on old mid new due status same is = subst (λ (n : ℕ). EndsBy n new due status) same is

pub ends : (due : Result Printed Fault) (a a' b b' : ℕ) (answer : Result Answer CommandError) (status : Status)
    → GivesOrFails answer_seen answer due → ToldBy a a' answer → FinishesBy b b' answer status → EndsBy (a + b) (a' + b') (printed_or_fault due).status status
ends due a a' b b' (Ok answer) status is told writes = rw is (writes_ends a a' b b' answer.status status told writes)
ends due a a' b b' (Err (Told fault)) status is told (inl writes) = rw is (writes_ends a a' b b' BadInput status told writes)
ends due a a' b b' (Err (Told fault)) status is told (inr stopped) = ends_wanting (a + b) (a' + b') (printed_or_fault due).status status stopped.0
ends due a a' b b' (Err ReadFailed) status is told stopped = ends_failed (a + b) (a' + b') (printed_or_fault due).status status stopped.0 (omega arith)
ends due a a' b b' (Err OutOfMemory) status is told stopped = ends_wanting (a + b) (a' + b') (printed_or_fault due).status status stopped.0

pub ends_known : (due : List ℕ → Result Printed Fault) (known : Option (List ℕ)) (a a' b b' : ℕ) (answer : Result Answer CommandError) (status : Status)
    → IfSome known (λ input. GivesOrFails answer_seen answer (due input)) → ToldBy a a' answer → FinishesBy b b' answer status
    → IfSome known (λ input. EndsBy (a + b) (a' + b') (printed_or_fault (due input)).status status)
ends_known due None a a' b b' answer status is told writes = tt
ends_known due (Some input) a a' b b' answer status is told writes = ends (due input) a a' b b' answer status is told writes

pub both_ends_known : (due : List ℕ → List ℕ → Result Printed Fault) (known other : Option (List ℕ)) (a a' b b' : ℕ) (answer : Result Answer CommandError) (status : Status)
    → IfSome known (λ input. IfSome other (λ more. GivesOrFails answer_seen answer (due input more))) → ToldBy a a' answer → FinishesBy b b' answer status
    → IfSome known (λ input. IfSome other (λ more. EndsBy (a + b) (a' + b') (printed_or_fault (due input more)).status status))
both_ends_known due None other a a' b b' answer status is told writes = tt
both_ends_known due (Some input) other a a' b b' answer status is told writes = ends_known (due input) other a a' b b' answer status is told writes

-- ---- several streams

pub set_same : {S : Type 0} (failures : S → ℕ) (streams : List S) (i : ℕ) (d other : S) → i < length streams → failures other ≡ failures (get_or streams i d)
    → all_failures failures (set streams i other) ≡ all_failures failures streams
set_same failures [] i d other inside same = absurd (omega (arith, inside))
set_same failures (x ∷ xs) zero d other inside same = ap (λ n. n + all_failures failures xs) same
set_same failures (x ∷ xs) (suc i) d other inside same = ap (λ n. failures x + n) (set_same failures xs i d other (omega (arith, inside)) same)

set_some : {S : Type 0} (failures : S → ℕ) (streams : List S) (i : ℕ) (d other : S) → i < length streams → HasFailed (failures (get_or streams i d)) (failures other)
    → HasFailed (all_failures failures streams) (all_failures failures (set streams i other))
set_some failures [] i d other inside some = absurd (omega (arith, inside))
set_some failures (x ∷ xs) zero d other inside some = omega (arith, some)
set_some failures (x ∷ xs) (suc i) d other inside some = omega (arith, set_some failures xs i d other (omega (arith, inside)) some)

pub set_fails : {S : Type 0} (failures : S → ℕ) (streams : List S) (i : ℕ) (d other : S) (error : CommandError) → i < length streams
    → FailsBy (failures (get_or streams i d)) (failures other) error → FailsBy (all_failures failures streams) (all_failures failures (set streams i other)) error
set_fails failures streams i d other (Told fault) inside same = set_same failures streams i d other inside same
set_fails failures streams i d other ReadFailed inside some = set_some failures streams i d other inside some
set_fails failures streams i d other OutOfMemory inside none = tt
