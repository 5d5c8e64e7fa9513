-- Lines taken in turn, up to the first fault.
use Rattle.std.specs.Prelude.{◌≡◌, ◌⊎◌, ◌<◌, ◌≤◌, ℕ, ◌+◌, Bool, if◌then◌else◌, List, [], ◌∷◌, length, Option, Some, IfSome, Result, Ok, Err}
use Rattle.ds_codec.specs.Reading.{◌>>=◌}
use Rattle.cli_commands.specs.declared.fault.Fault.{Fault}
use Rattle.cli_commands.specs.declared.fault.Fault.TheVariants.{TooLong}
use Rattle.cli_commands.specs.declared.fault.CommandError.{CommandError}
use Rattle.cli_commands.specs.declared.fault.CommandError.TheVariants.{Fault as Told, ReadFailed, OutOfMemory}
use Rattle.cli_commands.specs.Fault.{IsNoFault}
use Rattle.cli_commands.specs.Lines.{lines_in, within_limit}
use Rattle.cli_commands.specs.NextLine.{ReadsFront}

-- what the lines add, of which the first has this number
abbrev pub taken : {A : Type 0} → (ℕ → A → List ℕ → Result A Fault) → ℕ → A → List (List ℕ) → Result A Fault
taken take number told [] = Ok told
taken take number told (line ∷ lines) = take number told line >>= λ next. taken take (number + 1) next lines

-- what the lines of an input add, unless it is too long
abbrev pub taken_in : {A : Type 0} → (ℕ → A → List ℕ → Result A Fault) → A → List ℕ → Result A Fault
taken_in take none input = within_limit input >>= λ text. taken take 1 none (lines_in text)

-- what is told, beside what stays
abbrev pub with_kept : {K A : Type 0} → K → Result A Fault → Result (K × A) Fault
with_kept kept told = told >>= λ next. Ok (kept, next)

abbrev pub beside : {K A : Type 0} → (ℕ → A → List ℕ → Result A Fault) → ℕ → K × A → List ℕ → Result (K × A) Fault
beside take number (kept, told) line = with_kept kept (take number told line)

-- ---- as a program takes them

-- what is told after a change of it, or the error that it ended with
abbrev pub told_then : {T : Type 0} → T → Result (Unit {0}) CommandError → Result T CommandError
told_then told (Ok done) = Ok told
told_then told (Err error) = Err error

-- each line leads to what the next goes from, or to the error with which it ends
abbrev pub TakesAll : {T : Type 0} → (ℕ → T → List ℕ → Result T CommandError → Type 0) → ℕ → T → List (List ℕ) → Result T CommandError → Type 0
TakesAll takes number told [] result = result ≡ Ok told
TakesAll takes number told (line ∷ lines) result =
    ((error : CommandError) × takes number told line (Err error) × (result ≡ Err error))
    ⊎ ((next : _) × takes number told line (Ok next) × TakesAll takes (number + 1) next lines result)

-- the same, with the number of the line after them
abbrev pub TakesNumbered : {T : Type 0} → (ℕ → T → List ℕ → Result T CommandError → Type 0) → ℕ → T → List (List ℕ) → Result (T × ℕ) CommandError → Type 0
TakesNumbered takes number told lines (Ok (next, after)) = TakesAll takes number told lines (Ok next) × (after ≡ number + length lines)
TakesNumbered takes number told lines (Err error) = TakesAll takes number told lines (Err error)

-- The same of an input whose lines are taken as they are read: one of more than 16,777,216 bytes is too long, whatever its lines
-- tell; a read may fail.
abbrev pub TakesInput : {T : Type 0} → (ℕ → T → List ℕ → Result T CommandError → Type 0) → T → List ℕ → Result T CommandError → Type 0
TakesInput takes none input (Ok told) = (length input ≤ 16777216) × TakesAll takes 1 none (lines_in input) (Ok told)
TakesInput takes none input (Err (Told fault)) =
    ((16777216 < length input) × (fault ≡ TooLong))
    ⊎ ((length input ≤ 16777216) × TakesAll takes 1 none (lines_in input) (Err (Told fault)))
TakesInput takes none input (Err ReadFailed) = Unit {0}
TakesInput takes none input (Err OutOfMemory) = Unit {0}

-- ---- for the code's own proofs

-- whole lines of so many bytes were read from the front, and this is what they tell
abbrev pub TakesWhole : {T : Type 0} → (ℕ → T → List ℕ → Result T CommandError → Type 0) → ℕ → T → Option (List ℕ) → Option (List ℕ) → ℕ → Result (T × ℕ) CommandError → Type 0
TakesWhole takes number told old new count taken =
    (whole : List ℕ) × (length whole ≡ count) × IfSome old (λ bytes. ReadsFront bytes whole new) × TakesNumbered takes number told (lines_in whole) taken

-- lines were read from the front of these bytes, and so many of the most may come yet
abbrev pub CountedSoFar : Option (List ℕ) → Option (List ℕ) → ℕ → ℕ → Type 0
CountedSoFar whole now left most = IfSome whole (λ input. (rest : List ℕ) × (now ≡ Some rest) × (length input + left ≡ most + length rest))

-- and what they told leads to what these tell
abbrev pub TakenSoFar : {T : Type 0} → (ℕ → T → List ℕ → Result T CommandError → Type 0) → T → Option (List ℕ) → Option (List ℕ) → ℕ → T → ℕ → Type 0
TakenSoFar takes none whole now number told left =
    IfSome whole (λ input. (rest : List ℕ) × (now ≡ Some rest) × (length input + left ≡ 16777216 + length rest)
    × ((result : Result _ CommandError) → TakesAll takes number told (lines_in rest) result → TakesAll takes 1 none (lines_in input) result))

-- an error of a line where what follows fits or not: a fault gives way to an input that is too long
abbrev pub EndsAs : Bool → CommandError → CommandError → Type 0
EndsAs fits (Told fault) result = IsNoFault result ⊎ (result ≡ Told (if fits then fault else TooLong))
EndsAs fits ReadFailed result = result ≡ ReadFailed
EndsAs fits OutOfMemory result = result ≡ OutOfMemory
