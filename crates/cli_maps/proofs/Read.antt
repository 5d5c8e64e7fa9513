-- What is answered to a source, one step after another.
use Rattle.std.proofs.Common.{◌≡◌, ℕ, List, Result, Ok, Err, refl}
use Rattle.std.specs.Prelude.{Option, Some, None, IfSome}
use Rattle.ds_codec.specs.Reading.{◌>>=◌}
use Rattle.cli_commands.specs.declared.fault.Fault.{Fault}
use Rattle.cli_commands.specs.declared.fault.CommandError.{CommandError}
use Rattle.cli_commands.specs.declared.fault.CommandError.TheVariants.{Fault as Faulted, ReadFailed, OutOfMemory}
use Rattle.cli_commands.specs.declared.output.answer.Answer.{Answer}
use Rattle.cli_commands.specs.Fault.{Gives, GivesOrFails, IsNoFault}
use Rattle.cli_commands.specs.Held.{answer_seen}
use Rattle.cli_commands.specs.Lines.{within_limit}
use Rattle.cli_commands.specs.Printed.{Printed}
use Rattle.cli_commands.proofs.Answered.{or_fails}

-- a text that is too long
pub stops : {A B S T : Type 0} (seen : S → A) (view : T → B) (error : CommandError) (first : Result A Fault) (rest : A → Result B Fault)
    → Gives seen (Err error) first → Gives view (Err error) (first >>= rest)
stops seen view (Faulted fault) first rest is = rw is refl
stops seen view ReadFailed first rest is = is
stops seen view OutOfMemory first rest is = tt

pub goes : {A : Type 0} (first : Result A Fault) (text : A) (rest : A → Result Printed Fault) (answer : Result Answer CommandError)
    → first ≡ Ok text → Gives answer_seen answer (rest text) → Gives answer_seen answer (first >>= rest)
goes first text rest answer is gives = rw is gives

-- ---- over a reader

failed : (error : CommandError) (due : Result Printed Fault) → IsNoFault error → GivesOrFails answer_seen (Err error) due
failed (Faulted fault) due none = absurd none
failed ReadFailed due none = tt
failed OutOfMemory due none = tt

pub read_fails : (known : Option (List ℕ)) (due : List ℕ → Result Printed Fault) (error : CommandError)
    → IsNoFault error → IfSome known (λ input. GivesOrFails answer_seen (Err error) (due input))
read_fails None due error none = tt
read_fails (Some input) due error none = failed error (due input) none

-- what is answered to a text is answered to a reader that had it, as far as one looks
pub read_on : (known : Option (List ℕ)) (rest : Result (List ℕ) Fault → Result Printed Fault) (text : List ℕ) (answer : Result Answer CommandError)
    → IfSome known (λ input. within_limit input ≡ within_limit text) → Gives answer_seen answer (rest (within_limit text))
    → IfSome known (λ input. GivesOrFails answer_seen answer (rest (within_limit input)))
read_on None rest text answer same gives = tt
read_on (Some input) rest text answer same gives = rw same (or_fails answer_seen answer (rest (within_limit text)) gives)

pub reported : (known : Option (List ℕ)) (due : List ℕ → Result Printed Fault) (told_as : Result Printed Fault → Result Printed Fault) (answer result : Result Answer CommandError)
    → ((one : Result Printed Fault) → GivesOrFails answer_seen answer one → GivesOrFails answer_seen result (told_as one))
    → IfSome known (λ input. GivesOrFails answer_seen answer (due input)) → IfSome known (λ input. GivesOrFails answer_seen result (told_as (due input)))
reported None due told_as answer result tells gives = tt
reported (Some input) due told_as answer result tells gives = tells (due input) gives
