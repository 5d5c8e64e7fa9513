-- Positions that hold nulls alone.
use Rattle.std.proofs.Common.{◌≡◌, ℕ, zero, suc, ◌+◌, ◌-◌, ◌<◌, ◌≤◌, nat_eq, ◌==◌, ◌&&◌, ◌||◌, not, Bool, true, false, List, [], ◌∷◌, ◌++◌, length, map, take, drop, get_or, replicate, refl, sym, ◌∙◌, ap, arith, inl, inr}
use Rattle.std.proofs.Math.Seq.{take-suc}
use Rattle.std.proofs.lemmas.List.{get_or_past, get_or-drop, length-drop}
use Rattle.std.proofs.lemmas.Bool.{eqb-true}
use Rattle.ds_screen.proofs.MarkLaws.{past_blank}
use Rattle.std.proofs.lemmas.Bool.{cases_lt, and_parts}
use Rattle.std.proofs.lemmas.List.Folds.{list_all-map, list_all-append, list_all_at}
use Rattle.std.proofs.lemmas.List.FromFn.{map-range_with_len_more, get_or-map-range_with_len, length-map-range_with_len, length-range_with_len}
use Rattle.std.specs.List.{range_with_len, list_all, list_any}
use Rattle.std.specs.Cmp.Lexicographic.{pointwise}
use Rattle.ds_codec.specs.declared.cell.Cell.{Cell}
use Rattle.ds_codec.specs.declared.cell.Cell.TheVariants.{Field, Char}
use Rattle.ds_screen.specs.declared.stored.Kind.{Kind}
use Rattle.ds_screen.specs.declared.stored.Kind.TheVariants.{Attribute, Plain, Alternate}
use Rattle.ds_screen.specs.Picture.{blank, cell_at}
use Rattle.ds_screen.specs.Planes.{stored_cell, plane_cell, plane_cells, Held, held_cells}
use Rattle.ds_screen.specs.Shown.{is_null, are_nulls, printed_under, printed_cell}
use Rattle.ds_screen.specs.Fields.{ruling_bits}
use Rattle.ds_screen.proofs.PlaneLaws.{length-planes, cell_at-planes, counted}

-- ---- one position after the other

pub nulls_none : (cells : List Cell) (from : ℕ) → are_nulls cells from 0 ≡ true
unfolding are_nulls
nulls_none cells from = refl

pub nulls_more : (cells : List Cell) (from p count : ℕ) → from ≤ p → count ≡ p - from → are_nulls cells from count ≡ true → is_null (cell_at cells p) ≡ true
    → are_nulls cells from (count + 1) ≡ true
unfolding are_nulls
nulls_more cells from p count order is before here =
    ap (list_all is_null) (map-range_with_len_more (cell_at cells) from count p (omega arith))
    ∙ list_all-append is_null (map (cell_at cells) (range_with_len from count)) (cell_at cells p ∷ [])
    ∙ rw (before, here)

pub nulls_not : (cells : List Cell) (from p count : ℕ) → from ≤ p → p < from + count → is_null (cell_at cells p) ≡ false → are_nulls cells from count ≡ false
unfolding are_nulls
nulls_not cells from p count order inside here =
    list_all_at is_null (map (cell_at cells) (range_with_len from count)) (p - from) blank
    (omega (arith, length-map-range_with_len (cell_at cells) from count))
    (ap is_null (get_or-map-range_with_len (cell_at cells) from count (p - from) p blank (omega arith) (omega arith)) ∙ here)

-- ---- what is printed of them

printed_null : (bits : ℕ) (cell : Cell) → is_null cell ≡ true → printed_under bits cell ≡ 46
printed_null bits (Field attribute) h = cc
printed_null bits (Char character) h = rw h

printed_all : (cells : List Cell) (ps : List ℕ) → list_all is_null (map (cell_at cells) ps) ≡ true → replicate (length ps) 46 ≡ map (printed_cell cells) ps
printed_all cells [] h = refl
printed_all cells (p ∷ ps) h =
    let both = and_parts (is_null (cell_at cells p)) (list_all is_null (map (cell_at cells) ps)) h in
    rw (printed_all cells ps both.1, printed_null (ruling_bits cells p) (cell_at cells p) both.0)

pub nulls_printed : (cells : List Cell) (start columns : ℕ) → are_nulls cells start columns ≡ true
    → replicate columns 46 ≡ map (printed_cell cells) (range_with_len start columns)
unfolding are_nulls
nulls_printed cells start columns h =
    ap (λ n. replicate n 46) (sym (length-range_with_len start columns)) ∙ printed_all cells (range_with_len start columns) h

take_none : (n : ℕ) → take {A = ℕ} n [] ≡ []
take_none zero = refl
take_none (suc n) = refl

-- full stops behind nothing
pub full_stops : (n m : ℕ) (before bytes : List ℕ) → before ≡ [] → m ≡ 0 → bytes ≡ take n before ++ replicate (n - m) 46 → bytes ≡ replicate n 46
full_stops n m before bytes none zeroed is =
    is ∙ ap (λ l. take n l ++ replicate (n - m) 46) none ∙ ap (λ l. l ++ replicate (n - m) 46) (take_none n)
    ∙ ap (λ k. replicate k 46) {y = n} (omega arith)

-- ---- of planes

abbrev pub is_attribute_kind : Kind → Bool
is_attribute_kind kind = denote.Enum.Bare.sameb Rattle.ds_screen.specs.contracts.stored.Kind.the_type kind Attribute

and_true : (t : Bool) → (t && true) ≡ t
and_true false = refl
and_true true = refl

and_false : (t : Bool) → (t && false) ≡ false
and_false false = refl
and_false true = refl

list_any-map : {X Y : Type 0} (test : X → Bool) (f : Y → X) (ys : List Y) → list_any test (map f ys) ≡ list_any (λ y. test (f y)) ys
list_any-map test f [] = refl
list_any-map test f (y ∷ ys) = ap (λ t. test (f y) || t) (list_any-map test f ys)

-- the elements from one on are those at the positions
part_of : {T : Type 0} (xs : List T) (d : T) (from n : ℕ) → from + n ≤ length xs → take n (drop from xs) ≡ map (λ p. get_or xs p d) (range_with_len from n)
part_of xs d from zero inside = refl
part_of {T = T} xs d from (suc n) inside =
    take-suc (drop from xs) n d (omega (arith, length-drop from xs))
    ∙ ap (λ l. l ++ get_or (drop from xs) n d ∷ []) (part_of xs d from n (omega arith))
    ∙ ap (λ (x : T). map (λ p. get_or xs p d) (range_with_len from n) ++ x ∷ []) (get_or-drop from xs n d)
    ∙ sym (map-range_with_len_more (λ p. get_or xs p d) from n (from + n) refl)
    ∙ ap (λ k. map (λ p. get_or xs p d) (range_with_len from k)) {y = suc n} (omega arith)

-- a null and the kind of it
null_stored : (kind : Kind) (code : ℕ) → is_null (stored_cell kind code) ≡ ((code == 0) && not (is_attribute_kind kind))
null_stored Attribute code = sym (and_false (code == 0))
null_stored Plain code = sym (and_true (code == 0))
null_stored Alternate code = sym (and_true (code == 0))

-- all pass both
both_tests : {T : Type 0} (f g : T → Bool) (test : T → Bool) → ((x : T) → test x ≡ (f x && not (g x))) → (xs : List T)
    → (list_all f xs && not (list_any g xs)) ≡ list_all test xs
both_tests f g test is [] = refl
both_tests f g test is (x ∷ xs) = parts (f x) (g x) (list_all f xs) (list_any g xs) ∙ ap (λ t. t && (list_all f xs && not (list_any g xs))) (sym (is x)) ∙ ap (λ t. test x && t) (both_tests f g test is xs)
  where
    parts : (a b c d : Bool) → ((a && c) && not (b || d)) ≡ ((a && not b) && (c && not d))
    parts false b c d = refl
    parts true false c d = refl
    parts true true c d = and_false c

cell_of_planes : (codes : List ℕ) (kinds : List Kind) (p : ℕ) → length kinds ≡ length codes → cell_at (plane_cells codes kinds) p ≡ plane_cell codes kinds p
cell_of_planes codes kinds p same =
    elim (cases_lt p (length codes)) [
      | inl inside ↦ cell_at-planes codes kinds p inside
      | inr past ↦
          past_blank (plane_cells codes kinds) p (omega (arith, length-planes codes kinds))
          ∙ sym (ap (λ k. stored_cell k (get_or codes p 0)) (get_or_past kinds p Plain (omega arith)) ∙ ap (stored_cell Plain) (get_or_past codes p 0 (omega arith)))
    ]

planes_nulls : (codes : List ℕ) (kinds : List Kind) (from n : ℕ) → length kinds ≡ length codes → from + n ≤ length codes
    → (list_all (λ c. c == 0) (take n (drop from codes)) && not (list_any is_attribute_kind (take n (drop from kinds)))) ≡ are_nulls (plane_cells codes kinds) from n
unfolding are_nulls
planes_nulls codes kinds from n same inside =
    let ps = range_with_len from n in
    ap (λ l. list_all (λ c. c == 0) l && not (list_any is_attribute_kind (take n (drop from kinds)))) (part_of codes 0 from n inside)
    ∙ ap (λ l. list_all (λ c. c == 0) (map (λ p. get_or codes p 0) ps) && not (list_any is_attribute_kind l)) (part_of kinds Plain from n (omega arith))
    ∙ ap (λ t. t && not (list_any is_attribute_kind (map (λ p. get_or kinds p Plain) ps))) (list_all-map (λ c. c == 0) (λ p. get_or codes p 0) ps)
    ∙ ap (λ t. list_all (λ p. get_or codes p 0 == 0) ps && not t) (list_any-map is_attribute_kind (λ p. get_or kinds p Plain) ps)
    ∙ both_tests (λ p. get_or codes p 0 == 0) (λ p. is_attribute_kind (get_or kinds p Plain)) (λ p. is_null (cell_at (plane_cells codes kinds) p))
    (λ p. ap is_null (cell_of_planes codes kinds p same) ∙ null_stored (get_or kinds p Plain) (get_or codes p 0)) ps
    ∙ sym (list_all-map is_null (cell_at (plane_cells codes kinds)) ps)

-- what a method sees of the planes that it works on
pub nulls_seen : (codes : List ℕ) (kinds : List Kind) (room from count n : ℕ) (now : Held) (zeros : Bool) (codes_now : List ℕ) (kinds_now : List Kind)
    → length kinds ≡ length codes → held_cells codes kinds room ≡ now → from + count ≤ length now.cells → n ≡ count → codes_now ≡ codes → kinds_now ≡ kinds
    → zeros ≡ list_all (λ c. c == 0) (take n (drop from codes_now))
    → (zeros && not (list_any is_attribute_kind (take n (drop from kinds_now)))) ≡ are_nulls now.cells from count
nulls_seen codes kinds room from count n now zeros codes_now kinds_now same view inside many codes_are kinds_are so =
    ap (λ t. t && not (list_any is_attribute_kind (take n (drop from kinds_now)))) (so ∙ ap (λ l. list_all (λ c. c == 0) (take n (drop from l))) codes_are)
    ∙ ap (λ l. list_all (λ c. c == 0) (take n (drop from codes)) && not (list_any is_attribute_kind (take n (drop from l)))) kinds_are
    ∙ ap (λ k. list_all (λ c. c == 0) (take k (drop from codes)) && not (list_any is_attribute_kind (take k (drop from kinds)))) many
    ∙ planes_nulls codes kinds from count same (omega (arith, counted codes kinds room now view))
    ∙ ap (λ (h : Held). are_nulls h.cells from count) view

-- each is the one before it
as_first : (x y : ℕ) (ys : List ℕ) (t : Bool) → (y == x) ≡ t → (t && list_all (λ z. z == y) ys) ≡ (t && list_all (λ z. z == x) ys)
as_first x y ys false h = refl
as_first x y ys true h = ap (λ k. list_all (λ z. z == k) ys) (eqb-true y x h)

all_as_before : (x : ℕ) (xs : List ℕ) → pointwise nat_eq xs (take (length xs) (x ∷ xs)) ≡ list_all (λ y. y == x) xs
all_as_before x [] = refl
all_as_before x (y ∷ ys) = ap (λ t. (y == x) && t) (all_as_before y ys) ∙ as_first x y ys (y == x) refl

pub zeros_of : (x : ℕ) (xs codes : List ℕ) → x ≡ 0 → codes ≡ x ∷ xs → pointwise nat_eq xs (take (length xs) codes) ≡ list_all (λ y. y == 0) codes
zeros_of x xs codes zeroed is =
    ap (λ l. pointwise nat_eq xs (take (length xs) l)) is ∙ all_as_before x xs ∙ ap (λ k. list_all (λ y. y == k) xs) zeroed
    ∙ sym (ap (list_all (λ y. y == 0)) is ∙ ap (λ k. (k == 0) && list_all (λ y. y == 0) xs) zeroed)
