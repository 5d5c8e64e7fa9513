-- Lines that a program takes in turn.
use Rattle.std.proofs.Common.{◌≡◌, ℕ, ◌+◌, List, [], ◌∷◌, Ok, Err, refl, inl, inr}
use Rattle.std.specs.Prelude.{Result}
use Rattle.ds_codec.specs.Reading.{◌>>=◌}
use Rattle.cli_commands.specs.declared.fault.Fault.{Fault}
use Rattle.cli_commands.specs.declared.fault.CommandError.{CommandError}
use Rattle.cli_commands.specs.declared.fault.CommandError.TheVariants.{Fault as Told, ReadFailed, OutOfMemory}
use Rattle.cli_commands.specs.Fault.{Gives}
use Rattle.cli_commands.specs.Taking.{taken, with_kept, beside, TakesAll, told_then}

-- a change of what is told gives what is due
pub gives_then : {T A : Type 0} (view : T → A) (new : T) (result : Result (Unit {0}) CommandError) (due : Result A Fault)
    → Gives (λ done. view new) result due → Gives view (told_then new result) due
gives_then view new (Ok done) due gives = gives
gives_then view new (Err (Told fault)) due gives = gives
gives_then view new (Err ReadFailed) due gives = gives
gives_then view new (Err OutOfMemory) due gives = gives

ends_there : {T A : Type 0} (view : T → A) (take : ℕ → A → List ℕ → Result A Fault) (number : ℕ) (told : A) (line : List ℕ) (lines : List (List ℕ)) (error : CommandError)
    → Gives view (Err error) (take number told line) → Gives view (Err error) (taken take number told (line ∷ lines))
ends_there view take number told line lines (Told fault) fails = rw fails refl
ends_there view take number told line lines ReadFailed fails = fails
ends_there view take number told line lines OutOfMemory fails = tt

pub gives_taken : {T A : Type 0} (view : T → A) (take : ℕ → A → List ℕ → Result A Fault) (number : ℕ) (told : T) (lines : List (List ℕ)) (result : Result T CommandError)
    → TakesAll (λ n t line r. Gives view r (take n (view t) line)) number told lines result → Gives view result (taken take number (view told) lines)
gives_taken view take number told [] result is = rw is refl
gives_taken view take number told (line ∷ lines) result (inl (error, fails, is)) = rw is (ends_there view take number (view told) line lines error fails)
gives_taken view take number told (line ∷ lines) result (inr (next, goes, rest)) = rw goes (gives_taken view take (number + 1) next lines result rest)

-- ---- beside what stays

step_beside : {K A : Type 0} (kept : K) (told : Result A Fault) (one : K × A → Result (K × A) Fault) (other : A → Result A Fault)
    → ((next : A) → one (kept, next) ≡ with_kept kept (other next)) → (with_kept kept told >>= one) ≡ with_kept kept (told >>= other)
step_beside kept (Ok next) one other same = same next
step_beside kept (Err fault) one other same = refl

pub taken_beside : {K A : Type 0} (take : ℕ → A → List ℕ → Result A Fault) (number : ℕ) (kept : K) (told : A) (lines : List (List ℕ))
    → taken (beside take) number (kept, told) lines ≡ with_kept kept (taken take number told lines)
taken_beside take number kept told [] = refl
taken_beside take number kept told (line ∷ lines) =
    step_beside kept (take number told line) (λ next. taken (beside take) (number + 1) next lines) (λ next. taken take (number + 1) next lines)
    (λ next. taken_beside take (number + 1) kept next lines)
