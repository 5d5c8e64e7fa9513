-- The line on which a record stands. Where lines tell no sizes, each that is not ignored is a record.
use Rattle.std.specs.Prelude.{ℕ, ◌+◌, Bool, not, List, [], ◌∷◌, map, slice_get, Option}
use Rattle.std.specs.List.{filter}
use Rattle.cli_commands.specs.Lines.{lines_in}
use Rattle.cli_commands.specs.Says.{is_silent}

-- what is listed with its numbers, of which the first is this
abbrev pub numbered : {A : Type 0} → ℕ → List A → List (ℕ × A)
numbered number [] = []
numbered number (item ∷ items) = (number, item) ∷ numbered (number + 1) items

-- the numbers of what passes a test
abbrev pub numbers_of : {A : Type 0} → (A → Bool) → ℕ → List A → List ℕ
numbers_of test number items = map (λ i. i.0) (filter (λ i. test i.1) (numbered number items))

-- the numbers of the lines that are not ignored
abbrev pub telling_from : ℕ → List (List ℕ) → List ℕ
telling_from number lines = numbers_of (λ line. not (is_silent line)) number lines

-- the lines on which the records stand, in turn, counted from 1
abbrev pub record_numbers : List ℕ → List ℕ
record_numbers text = telling_from 1 (lines_in text)

-- the line of the record of this index
abbrev pub record_line : List ℕ → ℕ → Option ℕ
record_line text index = slice_get (record_numbers text) index
