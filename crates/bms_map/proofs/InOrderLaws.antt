-- Fields in the order of their attributes.
use Rattle.std.proofs.Common.{◌≡◌, ◌≤◌, ℕ, true, false, cond, List, [], ◌∷◌, ◌++◌, refl, subst, arith}
use Rattle.std.specs.Prelude.{nat_lt}
use Rattle.std.specs.List.Sorted.{IsPermutation}
use Rattle.std.proofs.lemmas.Bool.{ltb-true, ltb-false}
use Rattle.std.proofs.lemmas.List.{append-nil}
use Rattle.std.proofs.lemmas.List.Sorted.{IsPermutation-refl, IsPermutation-sym, IsPermutation-trans, IsPermutation-insert, IsPermutation-middle, IsPermutation-append_right}
use Rattle.bms_map.specs.Maps.{Shown}
use Rattle.bms_map.specs.Entries.{rank_in, placed, placed_all, in_order, AreRising, FieldsAreInOrder}
use Rattle.bms_map.proofs.EntryLaws.{placed_insert}

less : (a b : ℕ) → nat_lt a b ≡ true → a ≤ b
less a b e = omega (arith, ltb-true a b e)

rising_placed : (field : Shown) (fields : List Shown) → AreRising fields → AreRising (placed field fields)
rising_placed field [] rising = tt
rising_placed field (other ∷ []) rising =
    elim (nat_lt field.cell other.cell) as (λ b. nat_lt field.cell other.cell ≡ b → AreRising (cond b (field ∷ other ∷ []) (other ∷ field ∷ []))) [
      | true ↦ λ e. (less field.cell other.cell e, tt)
      | false ↦ λ e. (ltb-false field.cell other.cell e, tt)
    ] refl
rising_placed field (other ∷ third ∷ others) rising =
    elim (nat_lt field.cell other.cell) as (λ b. nat_lt field.cell other.cell ≡ b → AreRising (cond b (field ∷ other ∷ third ∷ others) (other ∷ placed field (third ∷ others)))) [
      | true ↦ λ e. (less field.cell other.cell e, rising)
      | false ↦ λ e. behind (ltb-false field.cell other.cell e) (rising_placed field (third ∷ others) rising.1)
    ] refl
  where
    behind : other.cell ≤ field.cell → AreRising (placed field (third ∷ others)) → AreRising (other ∷ placed field (third ∷ others))
    behind low more = elim (nat_lt field.cell third.cell) as
        (λ b. AreRising (cond b (field ∷ third ∷ others) (third ∷ placed field others)) → AreRising (other ∷ cond b (field ∷ third ∷ others) (third ∷ placed field others))) [
          | true ↦ λ more_. (low, more_)
          | false ↦ λ more_. (rising.0, more_)
        ] more

rising_all : (done fields : List Shown) → AreRising done → AreRising (placed_all done fields)
rising_all done [] rising = rising
rising_all done (field ∷ fields) rising = rising_all (placed field done) fields (rising_placed field done rising)

same_placed : (field : Shown) (fields : List Shown) → IsPermutation (field ∷ fields) (placed field fields)
same_placed field fields = subst (IsPermutation (field ∷ fields)) (placed_insert field fields) (IsPermutation-insert fields (rank_in fields field.cell) field)

same_all : (done fields : List Shown) → IsPermutation (fields ++ done) (placed_all done fields)
same_all done [] = IsPermutation-refl done
same_all done (field ∷ fields) =
    IsPermutation-trans (field ∷ fields ++ done) (fields ++ field ∷ done) (placed_all (placed field done) fields)
    (IsPermutation-sym (fields ++ field ∷ done) (field ∷ fields ++ done) (IsPermutation-middle fields field done))
    (IsPermutation-trans (fields ++ field ∷ done) (fields ++ placed field done) (placed_all (placed field done) fields)
    (IsPermutation-append_right fields (field ∷ done) (placed field done) (same_placed field done)) (same_all (placed field done) fields))

pub fields_are_in_order : FieldsAreInOrder
fields_are_in_order fields =
    (rising_all [] fields tt, subst (λ (l : List Shown). IsPermutation l (in_order fields)) (append-nil fields) (same_all [] fields))
