-- Lines taken in turn as they are read.
use Rattle.std.proofs.Common.{◌≡◌, ◌⊎◌, ℕ, Bool, ◌+◌, ◌-◌, ◌<◌, ◌≤◌, true, false, cond, nat_lt, nat_le, List, [], ◌∷◌, ◌++◌, length, length-append, map, Ok, Err, refl, sym, ◌∙◌, ap, subst, inl, inr, arith}
use Rattle.std.specs.Prelude.{Option, Some, None, IfSome, Result}
use Rattle.ds_codec.specs.Reading.{◌>>=◌}
use Rattle.std.proofs.lemmas.Bool.{le-leb, lt-leb, leb-true, leb-false}
use Rattle.bstr.specs.Text.{without_terminator}
use Rattle.bstr.proofs.lemmas.LineLemmas.{lines-nil}
use Rattle.cli_commands.specs.declared.fault.Fault.{Fault}
use Rattle.cli_commands.specs.declared.fault.Fault.TheVariants.{TooLong}
use Rattle.cli_commands.specs.declared.fault.CommandError.{CommandError}
use Rattle.cli_commands.specs.declared.fault.CommandError.TheVariants.{Fault as Told, ReadFailed, OutOfMemory}
use Rattle.cli_commands.specs.Fault.{Gives, GivesOrFails}
use Rattle.cli_commands.specs.Lines.{lines_in, within_limit}
use Rattle.cli_commands.specs.NextLine.{ReadsFront, ReadsSome}
use Rattle.cli_commands.specs.Taking.{taken_in, TakesAll, TakesNumbered, TakesInput, TakesWhole, TakenSoFar, EndsAs}
use Rattle.cli_commands.proofs.Taking.{gives_taken}

-- what is read of what is left
read_of : (now : Option (List ℕ)) (rest front : List ℕ) (new : Option (List ℕ)) → now ≡ Some rest → IfSome now (λ bytes. ReadsFront bytes front new)
    → ReadsFront rest front new
read_of now rest front new is reads = subst (λ z. IfSome z (λ bytes. ReadsFront bytes front new)) is reads

-- of some bytes so much is known as of any
pub front_of : (now : Option (List ℕ)) (front : List ℕ) (new : Option (List ℕ)) → IfSome now (λ bytes. ReadsSome bytes true front new) → IfSome now (λ bytes. ReadsFront bytes front new)
front_of None front new reads = tt
front_of (Some bytes) front new reads = reads.1

-- lines that are not too long break where they end
apart : (bytes lines rest : List ℕ) → length lines ≤ 16777216 → (lines_in bytes ≡ lines_in lines ++ lines_in rest) ⊎ (16777216 < length lines) → lines_in bytes ≡ lines_in lines ++ lines_in rest
apart bytes lines rest short (inl so) = so
apart bytes lines rest short (inr long) = absurd (omega arith)

both_lengths : (bytes lines rest : List ℕ) → bytes ≡ lines ++ rest → length bytes ≡ length lines + length rest
both_lengths bytes lines rest is = ap length is ∙ length-append lines rest

-- ---- taking

module _ {T : Type 0} (takes : ℕ → T → List ℕ → Result T CommandError → Type 0) (none : T) where
  pub takes_none : (whole : Option (List ℕ)) → TakenSoFar takes none whole whole 1 none 16777216
  takes_none None = tt
  takes_none (Some input) = (input, refl, omega arith, λ result is. is)

  same_ok : (result : Result T CommandError) (one other : T) → result ≡ Ok one → result ≡ Ok other → one ≡ other
  same_ok result one other is so = cc

  not_both : (result : Result T CommandError) (told : T) (error : CommandError) → result ≡ Ok told → result ≡ Err error → ⊥
  not_both result told error is so = cc

  -- lines, and those behind them
  takes_both : (number : ℕ) (told next : T) (xs ys : List (List ℕ)) (result : Result T CommandError) → TakesAll takes number told xs (Ok next)
      → TakesAll takes (number + length xs) next ys result → TakesAll takes number told (xs ++ ys) result
  takes_both number told next [] ys result first then =
      subst (λ n. TakesAll takes n told ys result) (omega arith) (subst (λ t. TakesAll takes (number + 0) t ys result) (same_ok (Ok next) next told refl first) then)
  takes_both number told next (x ∷ xs) ys result (inl (error, fails, is)) then = absurd (not_both (Ok next) next error refl is)
  takes_both number told next (x ∷ xs) ys result (inr (mid, goes, rest)) then =
      inr (mid, goes, takes_both (number + 1) mid next xs ys result rest (subst (λ n. TakesAll takes n next ys result) (omega arith) then))

  takes_first : (number : ℕ) (told : T) (xs ys : List (List ℕ)) (error : CommandError) → TakesAll takes number told xs (Err error) → TakesAll takes number told (xs ++ ys) (Err error)
  takes_first number told [] ys error is = absurd (not_both (Err error) told error is refl)
  takes_first number told (x ∷ xs) ys error (inl fails) = inl fails
  takes_first number told (x ∷ xs) ys error (inr (mid, goes, rest)) = inr (mid, goes, takes_first (number + 1) mid xs ys error rest)

  module _ (whole now new : Option (List ℕ)) (number : ℕ) (told : T) (left : ℕ) (lines : List ℕ) where
    pub takes_more : (next : T) (after : ℕ) → TakenSoFar takes none whole now number told left → IfSome now (λ bytes. ReadsFront bytes lines new) → length lines ≤ left
        → left ≤ 16777216 → TakesNumbered takes number told (lines_in lines) (Ok (next, after)) → TakenSoFar takes none whole new after next (left - length lines)
    takes_more next after so reads fits few goes =
        elim whole as (λ w. TakenSoFar takes none w now number told left → TakenSoFar takes none w new after next (left - length lines)) [
          | None ↦ λ so. tt
          | Some input ↦ λ so.
              let read = read_of now so.0 lines new so.1 reads in
              let breaks = apart so.0 lines read.0 (omega arith) read.3 in (
                read.0,
                read.1,
                omega (arith, so.2, both_lengths so.0 lines read.0 read.2),
                λ result rest.
                    so.3 result (subst (λ z. TakesAll takes number told z result) (sym breaks)
                    (takes_both number told next (lines_in lines) (lines_in read.0) result goes.0 (subst (λ n. TakesAll takes n next (lines_in read.0) result) goes.1 rest))),
              )
        ] so

    pub takes_all : TakenSoFar takes none whole now number told left → IfSome now (λ bytes. ReadsSome bytes false lines new) → IfSome whole (λ input. TakesInput takes none input (Ok told))
    takes_all so reads =
        elim whole as (λ w. TakenSoFar takes none w now number told left → IfSome w (λ input. TakesInput takes none input (Ok told))) [
          | None ↦ λ so. tt
          | Some input ↦ λ so.
              let over : so.0 ≡ [] = subst (λ z. IfSome z (λ bytes. ReadsSome bytes false lines new)) so.1 reads in
              let no_rest : length so.0 ≡ 0 = ap length over in (
                omega (arith, so.2, no_rest),
                so.3 (Ok told) (subst (λ z. TakesAll takes number told z (Ok told)) (sym (ap lines_in over ∙ ap (map without_terminator) lines-nil)) refl),
              )
        ] so

    ends_so : (input rest : List ℕ) (error result : CommandError) → length input + left ≡ 16777216 + (length lines + length rest) → length lines ≤ left
        → TakesAll takes 1 none (lines_in input) (Err error) → EndsAs (nat_le (length rest) (left - length lines)) error result → TakesInput takes none input (Err result)
    ends_so input rest (Told fault) ReadFailed counts fits all (inl no_fault) = tt
    ends_so input rest (Told fault) OutOfMemory counts fits all (inl no_fault) = tt
    ends_so input rest (Told fault) (Told other) counts fits all (inl no_fault) = absurd no_fault
    ends_so input rest (Told fault) result counts fits all (inr is) =
        elim (nat_le (length rest) (left - length lines)) as (λ b. nat_le (length rest) (left - length lines) ≡ b → result ≡ Told (cond b fault TooLong) → TakesInput takes none input (Err result)) [
          | true ↦ λ short same. subst (λ z. TakesInput takes none input (Err z)) (sym same) (inr (omega (arith, counts, leb-true (length rest) (left - length lines) short), all))
          | false ↦ λ long same. subst (λ z. TakesInput takes none input (Err z)) (sym same) (inl (omega (arith, counts, leb-false (length rest) (left - length lines) long), refl))
        ] refl is
    ends_so input rest ReadFailed result counts fits all is = rw is tt
    ends_so input rest OutOfMemory result counts fits all is = rw is tt

    pub takes_fault : (error result : CommandError) → TakenSoFar takes none whole now number told left → IfSome now (λ bytes. ReadsFront bytes lines new) → length lines ≤ left
        → left ≤ 16777216 → TakesAll takes number told (lines_in lines) (Err error) → IfSome new (λ rest. EndsAs (nat_le (length rest) (left - length lines)) error result)
        → IfSome whole (λ input. TakesInput takes none input (Err result))
    takes_fault error result so reads fits few fails ends =
        elim whole as (λ w. TakenSoFar takes none w now number told left → IfSome w (λ input. TakesInput takes none input (Err result))) [
          | None ↦ λ so. tt
          | Some input ↦ λ so.
              let read = read_of now so.0 lines new so.1 reads in
              let breaks = apart so.0 lines read.0 (omega arith) read.3 in
              let all : TakesAll takes 1 none (lines_in input) (Err error) =
              so.3 (Err error) (subst (λ z. TakesAll takes number told z (Err error)) (sym breaks) (takes_first number told (lines_in lines) (lines_in read.0) error fails)) in
              let counts : length input + left ≡ 16777216 + (length lines + length read.0) = omega (arith, so.2, both_lengths so.0 lines read.0 read.2) in
              ends_so input read.0 error result counts fits all
              (subst (λ z. IfSome z (λ rest. EndsAs (nat_le (length rest) (left - length lines)) error result)) read.1 ends)
        ] so

-- the same of whole lines that a reader showed
pub shown_more : {T : Type 0} (takes : ℕ → T → List ℕ → Result T CommandError → Type 0) (none : T) (whole now new : Option (List ℕ)) (number : ℕ) (told : T) (left count : ℕ) (next : T) (after : ℕ)
    → TakenSoFar takes none whole now number told left → TakesWhole takes number told now new count (Ok (next, after)) → count ≤ left → left ≤ 16777216
    → TakenSoFar takes none whole new after next (left - count)
shown_more takes none whole now new number told left count next after so (lines, long, reads, goes) fits few =
    subst (λ n. TakenSoFar takes none whole new after next (left - n)) long
    (takes_more takes none whole now new number told left lines next after so reads (omega (arith, long, fits)) few goes)

pub shown_fault : {T : Type 0} (takes : ℕ → T → List ℕ → Result T CommandError → Type 0) (none : T) (whole now new : Option (List ℕ)) (number : ℕ) (told : T) (left count : ℕ) (error result : CommandError)
    → TakenSoFar takes none whole now number told left → TakesWhole takes number told now new count (Err error) → count ≤ left → left ≤ 16777216
    → IfSome new (λ rest. EndsAs (nat_le (length rest) (left - count)) error result) → IfSome whole (λ input. TakesInput takes none input (Err result))
shown_fault takes none whole now new number told left count error result so (lines, long, reads, fails) fits few ends =
    takes_fault takes none whole now new number told left lines error result so reads (omega (arith, long, fits)) few fails
    (subst (λ n. IfSome new (λ rest. EndsAs (nat_le (length rest) (left - n)) error result)) (sym long) ends)

-- what no lines tell
pub takes_nothing : {T : Type 0} (takes : ℕ → T → List ℕ → Result T CommandError → Type 0) (number : ℕ) (told : T) → TakesNumbered takes number told (lines_in []) (Ok (told, number))
takes_nothing takes number told =
    let none : lines_in [] ≡ [] = ap (map without_terminator) lines-nil in
    rw none (refl, omega arith)

within : (input : List ℕ) → length input ≤ 16777216 → within_limit input ≡ Ok input
unfolding within_limit
within input short = rw (lt_false (length input) short) refl
  where
    lt_false : (n : ℕ) → n ≤ 16777216 → nat_lt 16777216 n ≡ false
    lt_false n few = lt-leb (16777216 + 1) n (omega arith)

over : (input : List ℕ) → 16777216 < length input → within_limit input ≡ Err TooLong
unfolding within_limit
over input long = rw (lt_true (length input) long) refl
  where
    lt_true : (n : ℕ) → 16777216 < n → nat_lt 16777216 n ≡ true
    lt_true n many = le-leb (16777216 + 1) n (omega arith)

-- ---- a text at hand

too_long : (b : Bool) (input : List ℕ) (fault : Fault) → (cond b (Err TooLong) (Ok (tt {0})) >>= λ short. Ok input) ≡ Err fault → (b ≡ true) × (fault ≡ TooLong)
too_long true input fault is = (refl, cc)
too_long false input fault is = absurd cc

all_lent : (b : Bool) (input lent : List ℕ) → (cond b (Err TooLong) (Ok (tt {0})) >>= λ short. Ok input) ≡ Ok lent → lent ≡ input
all_lent true input lent is = absurd cc
all_lent false input lent is = cc

pub takes_long : {T A : Type 0} (takes : ℕ → T → List ℕ → Result T CommandError → Type 0) (none : T) (view : A → List ℕ) (input : List ℕ) (error : CommandError)
    → Gives view (Err error) (within_limit input) → TakesInput takes none input (Err error)
unfolding within_limit
takes_long takes none view input (Told fault) is =
    let long = too_long (nat_lt 16777216 (length input)) input fault is in
    inl (leb-true (16777216 + 1) (length input) long.0, long.1)
takes_long takes none view input ReadFailed is = tt
takes_long takes none view input OutOfMemory is = tt

takes_short : {T : Type 0} (takes : ℕ → T → List ℕ → Result T CommandError → Type 0) (none : T) (input : List ℕ) (result : Result T CommandError)
    → length input ≤ 16777216 → TakesAll takes 1 none (lines_in input) result → TakesInput takes none input result
takes_short takes none input (Ok told) short is = (short, is)
takes_short takes none input (Err (Told fault)) short is = inr (short, is)
takes_short takes none input (Err ReadFailed) short is = tt
takes_short takes none input (Err OutOfMemory) short is = tt

pub takes_lent : {T : Type 0} (takes : ℕ → T → List ℕ → Result T CommandError → Type 0) (none : T) (input lent : List ℕ) (result : Result T CommandError)
    → within_limit input ≡ Ok lent → length lent ≤ 16777216 → TakesAll takes 1 none (lines_in lent) result → TakesInput takes none input result
unfolding within_limit
takes_lent takes none input lent result is short all =
    subst (λ t. TakesInput takes none t result) (all_lent (nat_lt 16777216 (length input)) input lent is) (takes_short takes none lent result short all)

-- ---- what is given of an input

pub gives_input : {T A : Type 0} (view : T → A) (take : ℕ → A → List ℕ → Result A Fault) (none : T) (input : List ℕ) (result : Result T CommandError)
    → TakesInput (λ n t line r. Gives view r (take n (view t) line)) none input result
    → GivesOrFails view result (taken_in take (view none) input)
gives_input view take none input (Ok told) is = rw (within input is.0) (gives_taken view take 1 none (lines_in input) (Ok told) is.1)
gives_input view take none input (Err (Told fault)) (inl (long, is)) = rw (over input long, is) refl
gives_input view take none input (Err (Told fault)) (inr (short, all)) = rw (within input short) (gives_taken view take 1 none (lines_in input) (Err (Told fault)) all)
gives_input view take none input (Err ReadFailed) is = tt
gives_input view take none input (Err OutOfMemory) is = tt

pub gives_known : {T A : Type 0} (view : T → A) (take : ℕ → A → List ℕ → Result A Fault) (none : T) (known : Option (List ℕ)) (result : Result T CommandError)
    → IfSome known (λ input. TakesInput (λ n t line r. Gives view r (take n (view t) line)) none input result)
    → IfSome known (λ input. GivesOrFails view result (taken_in take (view none) input))
gives_known view take none None result is = tt
gives_known view take none (Some input) result is = gives_input view take none input result is

-- what is due by one definition is so by another
pub due_by : {T A : Type 0} (view : T → A) (known : Option (List ℕ)) (one other : List ℕ → Result A Fault) (result : Result T CommandError) → ((input : List ℕ) → one input ≡ other input)
    → IfSome known (λ input. GivesOrFails view result (one input)) → IfSome known (λ input. GivesOrFails view result (other input))
due_by view None one other result same gives = tt
due_by view (Some input) one other result same gives = subst (GivesOrFails view result) (same input) gives
