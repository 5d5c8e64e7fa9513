-- Fields and occurrences that are gone over one after the other.
use Rattle.std.proofs.Common.{◌≡◌, ◌≤◌, ◌<◌, ◌+◌, ◌-◌, ℕ, suc, true, false, cond, Bool, ◌||◌, List, [], ◌∷◌, ◌++◌, length, map, take, drop, get_or, Result, Ok, refl, ap, sym, ◌∙◌, subst, append_assoc, arith}
use Rattle.std.specs.Prelude.{nat_lt}
use Rattle.std.specs.List.{list_any, flat_map, range_with_len, insert}
use Rattle.std.proofs.lemmas.List.FromFn.{length-map-range_with_len}
use Rattle.bms_source.specs.Told.{Told, ◌>>=◌}
use Rattle.bms_map.specs.Maps.{Ground, Shown}
use Rattle.bms_map.specs.Overlaps.{cell_in}
use Rattle.bms_map.specs.Entries.{Entry, index_at, cells_from, attributes_in, rank_in, placed, placed_all, shown_if, shown_of}
use Rattle.bms_map.specs.Fields.{judge_each}
use Rattle.bms_map.proofs.ValueLaws.{others_are}

range_more : (k m : ℕ) → range_with_len k (suc m) ≡ k ∷ range_with_len (k + 1) m
range_more k m = refl

pub range_next : (k n : ℕ) → k < n → range_with_len k (n - k) ≡ k ∷ range_with_len (k + 1) (n - (k + 1))
range_next k n lt = ap (range_with_len k) (steps k n lt) ∙ range_more k (n - (k + 1))
  where
    steps : (k n : ℕ) → k < n → n - k ≡ suc (n - (k + 1))
    steps k n lt = omega (arith, lt)

pub any_next : (p : ℕ → Bool) (f : ℕ → ℕ) (k n : ℕ) (due : Bool) → k < n → p (f k) ≡ false → list_any p (map f (range_with_len k (n - k))) ≡ due
    → list_any p (map f (range_with_len (k + 1) (n - (k + 1)))) ≡ due
any_next p f k n due lt none same =
    sym (ap (λ b. b || list_any p (map f (range_with_len (k + 1) (n - (k + 1))))) none) ∙ sym (ap (λ (l : List ℕ). list_any p (map f l)) (range_next k n lt)) ∙ same

pub each_next : (judge : ℕ → Result (Unit {0}) Told) (k n : ℕ) (due : Result (Unit {0}) Told) (u : Unit {0}) → k < n → judge k ≡ Ok u
    → judge_each judge (range_with_len k (n - k)) ≡ due → judge_each judge (range_with_len (k + 1) (n - (k + 1))) ≡ due
each_next judge k n due u lt good same =
    sym (ap (λ q. q >>= λ g. judge_each judge (range_with_len (k + 1) (n - (k + 1)))) good) ∙ sym (ap (λ (l : List ℕ). judge_each judge l) (range_next k n lt)) ∙ same

pub attributes_count : (area : Ground) (entry : Entry) → entry.is_later ≡ false → entry.occurs ≡ length (attributes_in area entry)
attributes_count area entry first =
    sym (length-map-range_with_len (λ k. cell_in area (index_at entry k)) 0 entry.occurs) ∙ sym (ap (λ b. length (cond b [] (cells_from area entry))) first)

pub append_next : {A B : Type 0} (f : A → List B) (now next due : List B) (rest : List A) (x : A) → 1 ≤ length rest → x ≡ get_or rest 0 x → next ≡ now ++ f x
    → now ++ flat_map f rest ≡ due → next ++ flat_map f (take (length rest - 1) (drop 1 rest)) ≡ due
append_next f now next due [] x some is more same = absurd (omega (arith, some))
append_next f now next due (a ∷ rs) x some is more same =
    ap (λ l. next ++ flat_map f l) (others_are a rs) ∙ ap (λ l. l ++ flat_map f rs) more ∙ append_assoc now (f x) (flat_map f rs)
    ∙ ap (λ y. now ++ (f y ++ flat_map f rs)) is ∙ same

pub placed_insert : (field : Shown) (fields : List Shown) → insert fields (rank_in fields field.cell) field ≡ placed field fields
placed_insert field [] = refl
placed_insert field (other ∷ others) =
    elim (nat_lt field.cell other.cell) as (λ b. insert (other ∷ others) (cond b 0 (1 + rank_in others field.cell)) field ≡ cond b (field ∷ other ∷ others) (other ∷ placed field others)) [
      | true ↦ refl
      | false ↦ subst (λ (n : ℕ). insert (other ∷ others) n field ≡ other ∷ placed field others) (one_more (rank_in others field.cell)) (ap (λ l. other ∷ l) (placed_insert field others))
    ]
  where
    one_more : (n : ℕ) → suc n ≡ 1 + n
    one_more n = omega arith

pub placed_append : (done first second : List Shown) → placed_all done (first ++ second) ≡ placed_all (placed_all done first) second
placed_append done [] second = refl
placed_append done (field ∷ fields) second = placed_append (placed field done) fields second

pub placed_next : (f : ℕ → Shown) (now next due : List Shown) (k n : ℕ) → k < n → next ≡ placed (f k) now → placed_all now (map f (range_with_len k (n - k))) ≡ due
    → placed_all next (map f (range_with_len (k + 1) (n - (k + 1)))) ≡ due
placed_next f now next due k n lt more same =
    ap (λ l. placed_all l (map f (range_with_len (k + 1) (n - (k + 1))))) more ∙ sym (ap (λ (l : List ℕ). placed_all now (map f l)) (range_next k n lt)) ∙ same

pub shown_next : (area : Ground) (now next due : List Shown) (rest : List Entry) (entry : Entry) → 1 ≤ length rest → entry ≡ get_or rest 0 entry
    → next ≡ placed_all now (shown_if area entry (take (length rest - 1) (drop 1 rest))) → placed_all now (shown_of area rest) ≡ due
    → placed_all next (shown_of area (take (length rest - 1) (drop 1 rest))) ≡ due
shown_next area now next due [] entry some is more same = absurd (omega (arith, some))
shown_next area now next due (a ∷ rs) entry some is more same =
    ap (λ l. placed_all next (shown_of area l)) (others_are a rs)
    ∙ ap (λ l. placed_all l (shown_of area rs)) (more ∙ ap (λ l. placed_all now (shown_if area entry l)) (others_are a rs) ∙ ap (λ e. placed_all now (shown_if area e rs)) is)
    ∙ sym (placed_append now (shown_if area a rs) (shown_of area rs)) ∙ same
