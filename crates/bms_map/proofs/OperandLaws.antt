-- Operands that are judged one after the other.
use Rattle.std.proofs.Common.{◌≡◌, ◌≤◌, ℕ, zero, suc, List, [], ◌∷◌, ◌++◌, length, take, drop, get_or, Option, Some, None, Result, Ok, Err, refl, ap, sym, ◌∙◌, append_assoc, arith}
use Rattle.bms_source.specs.declared.letter.Letter.{Letter}
use Rattle.bms_source.specs.declared.statement.Operation.{Operation}
use Rattle.bms_source.specs.declared.refusal.SourceError.{SourceError}
use Rattle.bms_source.specs.declared.refusal.SourceError.TheVariants.{OutOfMemory, Refused}
use Rattle.bms_source.specs.Results.{Fails}
use Rattle.bms_source.specs.Told.{Told, ◌>>=◌}
use Rattle.bms_source.specs.Scan.{comma_in}
use Rattle.bms_source.specs.Operand.{operand_in, after_comma, with_rest, next_operand}
use Rattle.bms_map.specs.Operands.{Given, Row, row_of, row_from, judge, judged}

-- what is due of the operands at the front, behind those that were judged
abbrev pub behind_row : Operation → List Given → Row → Result (List Given) Told
behind_row operation told row = judged operation told row.operands >>= λ good. row.rest >>= λ end. Ok (told ++ row.operands)

abbrev pub operands_behind : Operation → List Given → List Letter → Result (List Given) Told
operands_behind operation told letters = behind_row operation told (row_from 0 letters)

abbrev pub given_as : List Letter → List Letter → Given
given_as keyword value = record { keyword = keyword; value = value }

-- the same by the operand that is read at the front
abbrev pub by_next : Operation → List Given → Result (List Letter × List Letter × List Letter) Told → Result (List Given) Told
by_next operation told (Err e) = Err e
by_next operation told (Ok found) =
    judge operation told (given_as found.0 found.1) >>= λ good. operands_behind operation (told ++ given_as found.0 found.1 ∷ []) found.2

row_behind : (skip : ℕ) (letters : List Letter) → row_from skip letters ≡ row_from 0 (drop skip letters)
row_behind zero [] = refl
row_behind zero (l ∷ ls) = refl
row_behind (suc skip) [] = refl
row_behind (suc skip) (l ∷ ls) = row_behind skip ls

after_drop : (n : ℕ) (a : Letter) (xs : List Letter) → after_comma (drop n (a ∷ xs)) ≡ drop n xs
after_drop zero a [] = refl
after_drop zero a (x ∷ xs) = refl
after_drop (suc zero) a [] = refl
after_drop (suc (suc n)) a [] = refl
after_drop (suc n) a (x ∷ xs) = after_drop n x xs

judged_row : (operation : Operation) (told : List Given) (given : Given) (row : Row) (good : Result (Unit {0}) Told)
    → ((good >>= λ u. judged operation (told ++ given ∷ []) row.operands) >>= λ u. row.rest >>= λ end. Ok (told ++ given ∷ row.operands))
    ≡ (good >>= λ u. behind_row operation (told ++ given ∷ []) row)
judged_row operation told given row (Err e) = refl
judged_row operation told given row (Ok u) =
    ap (λ (l : List Given). judged operation (told ++ given ∷ []) row.operands >>= λ w. row.rest >>= λ end. Ok l) (sym (append_assoc told (given ∷ []) row.operands))

one_row : (operation : Operation) (told : List Given) (a : Letter) (others : List Letter) (row : Row) (found : Option (List Letter × List Letter)) → row ≡ row_from 0 others
    → behind_row operation told (row_of a found row) ≡ by_next operation told (with_rest a others found)
one_row operation told a others row None same = refl
one_row operation told a others row (Some pair) same =
    judged_row operation told (given_as pair.0 pair.1) row (judge operation told (given_as pair.0 pair.1))
    ∙ ap (λ (r : Row). judge operation told (given_as pair.0 pair.1) >>= λ u. behind_row operation (told ++ given_as pair.0 pair.1 ∷ []) r) same

pub next_row : (operation : Operation) (told : List Given) (letters : List Letter) (first d : Letter) → 1 ≤ length letters → first ≡ get_or letters 0 d
    → operands_behind operation told letters ≡ by_next operation told (next_operand first letters)
unfolding next_operand
next_row operation told [] first d some is = absurd (omega (arith, some))
next_row operation told (a ∷ xs) first d some is =
    one_row operation told a (after_comma (drop (comma_in (a ∷ xs)) (a ∷ xs))) (row_from (comma_in (a ∷ xs)) xs) (operand_in (take (comma_in (a ∷ xs)) (a ∷ xs)))
    (row_behind (comma_in (a ∷ xs)) xs ∙ ap (row_from 0) (sym (after_drop (comma_in (a ∷ xs)) a xs)))
    ∙ ap (λ (f : Letter). by_next operation told (with_rest f (after_comma (drop (comma_in (a ∷ xs)) (a ∷ xs))) (operand_in (take (comma_in (a ∷ xs)) (a ∷ xs))))) (sym is)

-- ---- what is due once an operand was read

pub failed_operand : (operation : Operation) (told : List Given) (letters : List Letter) (first d : Letter) (due : Result (List Given) Told) (e : SourceError) → 1 ≤ length letters
    → first ≡ get_or letters 0 d → operands_behind operation told letters ≡ due → Fails e (next_operand first letters) → Fails e due
failed_operand operation told letters first d due OutOfMemory some is same fails = tt
failed_operand operation told letters first d due (Refused r) some is same fails = sym same ∙ next_row operation told letters first d some is ∙ ap (by_next operation told) fails

pub failed_judge : (operation : Operation) (told : List Given) (letters : List Letter) (first d : Letter) (keyword value others : List Letter) (due : Result (List Given) Told) (e : SourceError)
    → 1 ≤ length letters → first ≡ get_or letters 0 d → operands_behind operation told letters ≡ due → next_operand first letters ≡ Ok (keyword, value, others)
    → Fails e (judge operation told (given_as keyword value)) → Fails e due
failed_judge operation told letters first d keyword value others due OutOfMemory some is same found fails = tt
failed_judge operation told letters first d keyword value others due (Refused r) some is same found fails =
    sym same ∙ next_row operation told letters first d some is ∙ ap (by_next operation told) found
    ∙ ap (λ j. j >>= λ good. operands_behind operation (told ++ given_as keyword value ∷ []) others) fails

pub passed_judge : (operation : Operation) (told new : List Given) (letters : List Letter) (first d : Letter) (keyword value others : List Letter) (due : Result (List Given) Told) (u : Unit {0})
    → 1 ≤ length letters → first ≡ get_or letters 0 d → operands_behind operation told letters ≡ due → next_operand first letters ≡ Ok (keyword, value, others)
    → judge operation told (given_as keyword value) ≡ Ok u → new ≡ told ++ given_as keyword value ∷ [] → operands_behind operation new others ≡ due
passed_judge operation told new letters first d keyword value others due u some is same found good more =
    ap (λ l. operands_behind operation l others) more
    ∙ sym (ap (λ j. j >>= λ g. operands_behind operation (told ++ given_as keyword value ∷ []) others) good)
    ∙ sym (ap (by_next operation told) found) ∙ sym (next_row operation told letters first d some is) ∙ same
