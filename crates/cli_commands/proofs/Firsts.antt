-- The first fault of lines.
use Rattle.std.proofs.Common.{◌≡◌, ℕ, ◌+◌, List, [], ◌∷◌, ◌++◌, length, Ok, Err, refl, ap, ◌∙◌, arith}
use Rattle.std.specs.Prelude.{Result}
use Rattle.ds_codec.specs.Reading.{◌>>=◌}
use Rattle.cli_commands.specs.declared.fault.Fault.{Fault}
use Rattle.cli_commands.specs.Taking.{taken}
use Rattle.cli_commands.specs.Says.{TellFirstFaults}
use Rattle.cli_commands.specs.Keys.{take_key}
use Rattle.cli_commands.specs.Drafts.{no_drafts, take_order_line}
use Rattle.cli_commands.specs.Records.{no_records, take_record}

abbrev Cut : {A : Type 0} → (ℕ → A → List ℕ → Result A Fault) → ℕ → A → List (List ℕ) → Fault → Type 0
Cut take number none lines fault =
    (early : List (List ℕ)) × (line : List ℕ) × (late : List (List ℕ)) × (told : _) × (lines ≡ early ++ line ∷ late)
    × (taken take number none early ≡ Ok told) × (take (number + length early) told line ≡ Err fault)

later : {A : Type 0} (take : ℕ → A → List ℕ → Result A Fault) (number : ℕ) (none next : A) (line : List ℕ) (lines : List (List ℕ)) (fault : Fault)
    → take number none line ≡ Ok next → Cut take (number + 1) next lines fault → Cut take number none (line ∷ lines) fault
later take number none next line lines fault goes (early, at, late, told, parts, good, bad) =
    let more : (number + 1) + length early ≡ number + length (line ∷ early) = omega arith in
    (line ∷ early, at, late, told, ap (λ ls. line ∷ ls) parts, rw goes good, rw more at bad)

here : {A : Type 0} (take : ℕ → A → List ℕ → Result A Fault) (number : ℕ) (none : A) (line : List ℕ) (lines : List (List ℕ)) (fault : Fault)
    → take number none line ≡ Err fault → Cut take number none (line ∷ lines) fault
here take number none line lines fault bad =
    let at : number ≡ number + 0 = omega arith in
    ([], line, lines, none, refl, refl, rw at at bad)

cut : {A : Type 0} (take : ℕ → A → List ℕ → Result A Fault) (number : ℕ) (none : A) (lines : List (List ℕ)) (fault : Fault) → taken take number none lines ≡ Err fault → Cut take number none lines fault
cut take number none [] fault is = absurd cc
cut take number none (line ∷ lines) fault is =
    elim (take number none line) as (λ r. take number none line ≡ r → (r >>= λ next. taken take (number + 1) next lines) ≡ Err fault → Cut take number none (line ∷ lines) fault) [
      | Ok next ↦ λ goes bad. later take number none next line lines fault goes (cut take (number + 1) next lines fault bad)
      | Err e ↦ λ fails bad. here take number none line lines fault (fails ∙ bad)
    ] refl is

join : {A : Type 0} (take : ℕ → A → List ℕ → Result A Fault) (number : ℕ) (none told : A) (early : List (List ℕ)) (line : List ℕ) (late : List (List ℕ)) (fault : Fault)
    → taken take number none early ≡ Ok told → take (number + length early) told line ≡ Err fault → taken take number none (early ++ line ∷ late) ≡ Err fault
join take number none told [] line late fault good bad =
    let same : none ≡ told = cc in
    let at : number + 0 ≡ number = omega arith in
    rw (same, rw at at bad) refl
join take number none told (first ∷ early) line late fault good bad =
    elim (take number none first) as (λ r. (r >>= λ next. taken take (number + 1) next early) ≡ Ok told → (r >>= λ next. taken take (number + 1) next (early ++ line ∷ late)) ≡ Err fault) [
      | Ok next ↦ λ goes.
          let more : number + length (first ∷ early) ≡ (number + 1) + length early = omega arith in
          join take (number + 1) next told early line late fault goes (rw more at bad)
      | Err e ↦ λ fails. absurd cc
    ] good

joined : {A : Type 0} (take : ℕ → A → List ℕ → Result A Fault) (none : A) (lines : List (List ℕ)) (fault : Fault) → Cut take 1 none lines fault → taken take 1 none lines ≡ Err fault
joined take none lines fault (early, line, late, told, parts, good, bad) = rw parts (join take 1 none told early line late fault good bad)

pub tell_first_faults : TellFirstFaults
tell_first_faults = record {
  records = λ size_line lines fault. (cut take_record 1 (no_records size_line) lines fault, joined take_record (no_records size_line) lines fault);
  keys = λ lines fault. (cut take_key 1 [] lines fault, joined take_key [] lines fault);
  drafts = λ lines fault. (cut take_order_line 1 no_drafts lines fault, joined take_order_line no_drafts lines fault);
}
