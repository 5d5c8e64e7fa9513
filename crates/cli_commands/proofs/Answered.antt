-- What is answered to the bytes of a reader, whether they are known or not.
use Rattle.std.proofs.Common.{◌≡◌, ℕ, List, [], length, take, Ok, Err, refl, sym, ap, ◌∙◌, arith, inl, inr, length-take, append-nil}
use Rattle.std.specs.Prelude.{Option, Some, None, IfSome, Result}
use Rattle.std.specs.Io.KnownBytes.{Appends}
use Rattle.std.proofs.lemmas.Bool.{cases_lt, lt-ltb}
use Rattle.std.proofs.lemmas.List.{take_all}
use Rattle.ds_codec.specs.Reading.{◌>>=◌}
use Rattle.cli_commands.specs.declared.fault.Fault.{Fault}
use Rattle.cli_commands.specs.declared.fault.CommandError.{CommandError}
use Rattle.cli_commands.specs.declared.fault.CommandError.TheVariants.{Fault as Told, ReadFailed, OutOfMemory}
use Rattle.cli_commands.specs.declared.output.answer.Answer.{Answer}
use Rattle.cli_commands.specs.declared.status.Status.{Status}
use Rattle.cli_commands.specs.declared.status.Status.TheVariants.{Done, Findings, BadInput, Failed, NoMemory}
use Rattle.cli_commands.specs.Fault.{Gives, GivesOrFails, fault_line}
use Rattle.cli_commands.specs.Held.{answer_seen}
use Rattle.cli_commands.specs.Lines.{at_most, within_limit}
use Rattle.cli_commands.specs.Printed.{Printed, printed, printed_or_fault}
use Rattle.cli_commands.specs.Streams.{AppendsFront, IsWritten, IsStopped, Finishes, Prints}

-- ---- the limit of an input

-- one byte more than an input can have tells that it is too long
same_limit : (input text : List ℕ) → text ≡ take 16777217 input → within_limit input ≡ within_limit text
unfolding within_limit
same_limit input text is =
    elim (cases_lt 16777216 (length input)) [
      | inl long ↦
          let cut : length text ≡ 16777217 = omega (arith, ap length is, length-take 16777217 input) in
          rw (cut, lt-ltb 16777216 (length input) long) refl
      | inr short ↦ ap within_limit (sym (is ∙ take_all 16777217 input (omega arith)))
    ]

pub bounded : (text : List ℕ) (fits : Result (Unit {0}) Fault) → fits ≡ at_most (length text) 16777216 → within_limit text ≡ (fits >>= λ short. Ok text)
unfolding within_limit
bounded text fits is = rw is refl

pub alike : (known : Option (List ℕ)) (text : List ℕ) → IfSome known (λ input. text ≡ take 16777217 input) → IfSome known (λ input. within_limit input ≡ within_limit text)
alike None text is = tt
alike (Some input) text is = same_limit input text is

-- ---- one step after another

-- what reads nothing gives what may fail to read
pub or_fails : {A T : Type 0} (view : T → A) (result : Result T CommandError) (due : Result A Fault) → Gives view result due → GivesOrFails view result due
or_fails view (Ok found) due is = is
or_fails view (Err (Told fault)) due is = is
or_fails view (Err ReadFailed) due is = tt
or_fails view (Err OutOfMemory) due is = tt

pub goes_on : {A B T : Type 0} (view : T → B) (known : Option (List ℕ)) (first : List ℕ → Result A Fault) (value : A) (rest : A → Result B Fault) (result : Result T CommandError)
    → IfSome known (λ input. first input ≡ Ok value) → GivesOrFails view result (rest value) → IfSome known (λ input. GivesOrFails view result (first input >>= rest))
goes_on view None first value rest result is gives = tt
goes_on view (Some input) first value rest result is gives = rw is gives

fails : {A B S T : Type 0} (seen : S → A) (view : T → B) (first : Result A Fault) (rest : A → Result B Fault) (error : CommandError)
    → GivesOrFails seen (Err error) first → GivesOrFails view (Err error) (first >>= rest)
fails seen view first rest (Told fault) is = rw is refl
fails seen view first rest ReadFailed is = tt
fails seen view first rest OutOfMemory is = tt

pub ends : {A B S T : Type 0} (seen : S → A) (view : T → B) (known : Option (List ℕ)) (first : List ℕ → Result A Fault) (rest : A → Result B Fault) (error : CommandError)
    → IfSome known (λ input. GivesOrFails seen (Err error) (first input)) → IfSome known (λ input. GivesOrFails view (Err error) (first input >>= rest))
ends seen view None first rest error is = tt
ends seen view (Some input) first rest error is = fails seen view (first input) rest error is

-- ---- the end of a command

nothing_written : (known : Option (List ℕ)) → Appends known known []
nothing_written None = tt
nothing_written (Some bytes) = sym (append-nil bytes)

no_front : (old : Option (List ℕ)) (text : List ℕ) → AppendsFront old old text
no_front old text = ([], text, refl, nothing_written old)

all_is_front : (old new : Option (List ℕ)) (text : List ℕ) → Appends old new text → AppendsFront old new text
all_is_front old new text all = (text, [], sym (append-nil text), all)

prints_all : (old new : Option (List ℕ)) (due : Printed) (status : Status) → status ≡ due.status → Appends old new due.text → Prints old new status due
prints_all old new due Done same all = (same, all)
prints_all old new due Findings same all = (same, all)
prints_all old new due BadInput same all = (same, all)
prints_all old new due Failed same all = all_is_front old new due.text all
prints_all old new due NoMemory same all = all_is_front old new due.text all

prints_written : (old new : Option (List ℕ)) (due : Printed) (status : Status) → IsWritten old new due status → Prints old new status due
prints_written old new due status (inl (same, all)) = prints_all old new due status same all
prints_written old new due status (inr (failed, front)) = rw failed front

prints_nothing : (old new : Option (List ℕ)) (due : Printed) (status want : Status) → want ≡ Failed → IsStopped old new want status → Prints old new status due
prints_nothing old new due status want is (same, kept) = rw (same, is, kept) (no_front old due.text)

out_of_memory : (old new : Option (List ℕ)) (due : Printed) (status : Status) → IsStopped old new NoMemory status → Prints old new status due
out_of_memory old new due status (same, kept) = rw (same, kept) (no_front old due.text)

-- what was answered is printed, or the fault
pub finishes : (due : Result Printed Fault) (old new : Option (List ℕ)) (answer : Result Answer CommandError) (status : Status)
    → GivesOrFails answer_seen answer due → Finishes old new answer status → Prints old new status (printed_or_fault due)
finishes due old new (Ok answer) status is written = rw is (prints_written old new (answer_seen answer) status written)
finishes due old new (Err (Told fault)) status is (inl written) = rw is (prints_written old new (printed (fault_line fault) BadInput) status written)
finishes due old new (Err (Told fault)) status is (inr stopped) = out_of_memory old new (printed_or_fault due) status stopped
finishes due old new (Err ReadFailed) status is stopped = prints_nothing old new (printed_or_fault due) status Failed refl stopped
finishes due old new (Err OutOfMemory) status is stopped = out_of_memory old new (printed_or_fault due) status stopped

pub finished : (due : List ℕ → Result Printed Fault) (known old new : Option (List ℕ)) (answer : Result Answer CommandError) (status : Status)
    → IfSome known (λ input. GivesOrFails answer_seen answer (due input)) → Finishes old new answer status → IfSome known (λ input. Prints old new status (printed_or_fault (due input)))
finished due None old new answer status is written = tt
finished due (Some input) old new answer status is written = finishes (due input) old new answer status is written

pub both_finished : (due : List ℕ → List ℕ → Result Printed Fault) (known other old new : Option (List ℕ)) (answer : Result Answer CommandError) (status : Status)
    → IfSome known (λ input. IfSome other (λ more. GivesOrFails answer_seen answer (due input more))) → Finishes old new answer status
    → IfSome known (λ input. IfSome other (λ more. Prints old new status (printed_or_fault (due input more))))
both_finished due None other old new answer status is written = tt
both_finished due (Some input) other old new answer status is written = finished (due input) other old new answer status is written
