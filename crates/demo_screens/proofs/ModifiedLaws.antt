-- The list of modified attributes: what it holds at each place, and that it is the only such list.
use Rattle.std.proofs.Common.{◌≡◌, ℕ, zero, suc, ◌+◌, ◌-◌, ◌<◌, ◌≤◌, ◌||◌, Bool, true, false, cond, eqb, List, [], ◌∷◌, length, Option, Some, None, unwrap_or, refl, sym, ◌∙◌, ap, subst, arith, inl, inr}
use Rattle.std.specs.List.{range_with_len, filter}
use Rattle.std.proofs.lemmas.Bool.{cond-true, cond-false, cases_Bool, cases_eq, cases_lt, eqb-true, eq-eqb, ne_eqb, false≢true}
use Rattle.std.proofs.lemmas.List.{get_or_past}
use Rattle.ds_codec.specs.declared.cell.Cell.{Cell}
use Rattle.ds_codec.specs.declared.cell.Cell.TheVariants.{Field, Char}
use Rattle.ds_codec.specs.Attribute.{is_modified}
use Rattle.ds_places.specs.Places.{at_place, RisesFrom, IsRising}
use Rattle.ds_places.proofs.ListLaws.{rises_filter, at_filter}
use Rattle.ds_screen.specs.Picture.{blank, cell_at}
use Rattle.ds_screen.specs.Fields.{is_attribute, bits_of}
use Rattle.ds_inbound.specs.Answer.{is_modified_at}
use Rattle.demo_screens.specs.Modified.{modified_places}

abbrev pub itself : ℕ → ℕ
itself p = p

-- p, where it is listed
abbrev pub listed_if : ℕ → Bool → Option ℕ
listed_if p t = cond t (Some p) None

-- ---- lists that rise
none_below : (low q : ℕ) (xs : List ℕ) → RisesFrom itself low xs → q < low → at_place itself xs q ≡ None
none_below low q [] rises below = refl
none_below low q (x ∷ xs) rises below =
    cond-false (eqb x q) _ _ (ne_eqb x q (λ same. omega (arith, rises.0)))
    ∙ none_below (x + 1) q xs rises.1 (omega (arith, rises.0))

held_first : (x : ℕ) (xs : List ℕ) → at_place itself (x ∷ xs) x ≡ Some x
held_first x xs = cond-true (eqb x x) _ _ (eq-eqb x x refl)

-- a list that rises is what it holds
only_list : (test : ℕ → Bool) (k low : ℕ) (xs : List ℕ) → RisesFrom itself low xs → ((p : ℕ) → low ≤ p → at_place itself xs p ≡ listed_if p (test p))
    → ((p : ℕ) → low + k ≤ p → test p ≡ false) → xs ≡ filter test (range_with_len low k)
only_list test zero low [] rises each past = refl
only_list test zero low (x ∷ xs) rises each past =
    let far : test x ≡ false = past x (omega (arith, rises.0)) in
    let both : Some x ≡ None = sym (held_first x xs) ∙ each x rises.0 ∙ cond-false (test x) _ _ far in
    absurd cc
only_list test (suc k) low xs rises each past =
    let rest = λ (ys : List ℕ) (rising : RisesFrom itself (low + 1) ys) (held : (p : ℕ) → low + 1 ≤ p → at_place itself ys p ≡ listed_if p (test p)).
    only_list test k (low + 1) ys rising held (λ p far. past p (omega (arith, far))) in
    elim (cases_Bool (test low)) [
      | inl passes ↦ taken xs rises each passes rest
      | inr fails ↦
          rest xs (later xs rises (each low (omega arith) ∙ cond-false (test low) _ _ fails)) (λ p from. each p (omega (arith, from)))
          ∙ sym (cond-false (test low) (low ∷ filter test (range_with_len (low + 1) k)) (filter test (range_with_len (low + 1) k)) fails)
    ]
  where
    later : (ys : List ℕ) → RisesFrom itself low ys → at_place itself ys low ≡ None → RisesFrom itself (low + 1) ys
    later [] rises none = tt
    later (y ∷ ys) rises none =
        elim (cases_eq y low) [
          | inl same ↦ let both : Some y ≡ None = sym (cond-true (eqb y low) (Some y) (at_place itself ys low) (eq-eqb y low same)) ∙ none in absurd cc
          | inr apart ↦ (omega (arith, rises.0, apart), rises.1)
        ]

    taken : (ys : List ℕ) → RisesFrom itself low ys → ((p : ℕ) → low ≤ p → at_place itself ys p ≡ listed_if p (test p)) → test low ≡ true
        → ((zs : List ℕ) → RisesFrom itself (low + 1) zs → ((p : ℕ) → low + 1 ≤ p → at_place itself zs p ≡ listed_if p (test p)) → zs ≡ filter test (range_with_len (low + 1) k))
        → ys ≡ filter test (range_with_len low (suc k))
    taken [] rises each passes rest = let both : None ≡ Some low = each low (omega arith) ∙ cond-true (test low) (Some low) None passes in absurd cc
    taken (y ∷ ys) rises each passes rest =
        elim (cases_eq y low) [
          | inl same ↦
              ap (λ z. z ∷ ys) same
              ∙ ap (λ zs. low ∷ zs) (rest ys (subst (λ z. RisesFrom itself (z + 1) ys) same rises.1)
              (λ p from. sym (cond-false (eqb y p) (Some y) (at_place itself ys p) (ne_eqb y p (λ is. omega (arith, same, is, from)))) ∙ each p (omega (arith, from))))
              ∙ sym (cond-true (test low) (low ∷ filter test (range_with_len (low + 1) k)) (filter test (range_with_len (low + 1) k)) passes)
          | inr apart ↦
              let none : at_place itself (y ∷ ys) low ≡ None =
              cond-false (eqb y low) (Some y) (at_place itself ys low) (ne_eqb y low apart) ∙ none_below (y + 1) low ys rises.1 (omega (arith, rises.0)) in
              let both : None ≡ Some low = sym none ∙ each low (omega arith) ∙ cond-true (test low) (Some low) None passes in
              absurd cc
        ]

-- ---- a range
rises_range : (k low : ℕ) → RisesFrom itself low (range_with_len low k)
rises_range zero low = tt
rises_range (suc k) low = (omega arith, rises_range k (low + 1))

at_range : (k low p : ℕ) → low ≤ p → p < low + k → at_place itself (range_with_len low k) p ≡ Some p
at_range zero low p from below = absurd (omega arith)
at_range (suc k) low p from below =
    elim (cases_eq low p) [
      | inl same ↦ cond-true (eqb low p) _ _ (eq-eqb low p same) ∙ ap (λ q. Some q) same
      | inr apart ↦ cond-false (eqb low p) _ _ (ne_eqb low p apart) ∙ at_range k (low + 1) p (omega (arith, apart)) (omega arith)
    ]

past_range : (k low p : ℕ) → low + k ≤ p → at_place itself (range_with_len low k) p ≡ None
past_range zero low p far = refl
past_range (suc k) low p far = cond-false (eqb low p) _ _ (ne_eqb low p (λ same. omega (arith, same))) ∙ past_range k (low + 1) p (omega arith)

-- ---- the modified attributes
modified_attribute : (x : Cell) → is_modified (bits_of x) ≡ true → is_attribute x ≡ true
modified_attribute (Field bits) is = refl
modified_attribute (Char character) is = absurd (false≢true is)

pub past_unmodified : (cells : List Cell) (p : ℕ) → length cells ≤ p → is_modified_at cells p ≡ false
past_unmodified cells p far = ap (λ x. is_modified (bits_of x)) (get_or_past cells p blank far)

-- what passes the second test passes the first
filter_again : (first second : ℕ → Bool) (xs : List ℕ) → ((p : ℕ) → second p ≡ true → first p ≡ true) → filter second (filter first xs) ≡ filter second xs
filter_again first second [] implied = refl
filter_again first second (x ∷ xs) implied =
    let more = filter_again first second xs implied in
    elim (cases_Bool (second x)) [
      | inl passes ↦
          ap (filter second) (cond-true (first x) (x ∷ filter first xs) (filter first xs) (implied x passes))
          ∙ cond-true (second x) _ _ passes ∙ ap (λ ys. x ∷ ys) more ∙ sym (cond-true (second x) _ _ passes)
      | inr fails ↦ elim (cases_Bool (first x)) [
        | inl kept ↦
            ap (filter second) (cond-true (first x) (x ∷ filter first xs) (filter first xs) kept)
            ∙ cond-false (second x) _ _ fails ∙ more ∙ sym (cond-false (second x) _ _ fails)
        | inr gone ↦
            ap (filter second) (cond-false (first x) (x ∷ filter first xs) (filter first xs) gone)
            ∙ more ∙ sym (cond-false (second x) _ _ fails)
      ]
    ]

as_range : (cells : List Cell) → modified_places cells ≡ filter (is_modified_at cells) (range_with_len 0 (length cells))
as_range cells =
    filter_again (λ q. is_attribute (cell_at cells q)) (is_modified_at cells) (range_with_len 0 (length cells - 0)) (λ p is. modified_attribute (cell_at cells p) is)
    ∙ ap (λ k. filter (is_modified_at cells) (range_with_len 0 k)) (less (length cells))
  where
    less : (n : ℕ) → n - 0 ≡ n
    less n = omega arith

pub modified_rises : (cells : List Cell) → IsRising itself (modified_places cells)
modified_rises cells =
    subst (IsRising itself) (sym (as_range cells)) (rises_filter itself (is_modified_at cells) 0 (range_with_len 0 (length cells)) (rises_range (length cells) 0))

pub modified_held : (cells : List Cell) (p : ℕ) → at_place itself (modified_places cells) p ≡ listed_if p (is_modified_at cells p)
modified_held cells p =
    ap (λ xs. at_place itself xs p) (as_range cells) ∙ at_filter itself (is_modified_at cells) (range_with_len 0 (length cells)) p
    ∙ elim (cases_lt p (length cells)) [
      | inl lt ↦ ap (λ o. cond (is_modified_at cells p) o None) (at_range (length cells) 0 p (omega arith) (omega arith))
      | inr far ↦ cond-false (is_modified_at cells p) _ _ (past_unmodified cells p far) ∙ sym (cond-false (is_modified_at cells p) _ _ (past_unmodified cells p far))
    ]

pub modified_only : (cells : List Cell) (xs : List ℕ) → IsRising itself xs → ((p : ℕ) → at_place itself xs p ≡ listed_if p (is_modified_at cells p)) → xs ≡ modified_places cells
modified_only cells xs rises each =
    only_list (is_modified_at cells) (length cells) 0 xs rises (λ p from. each p) (λ p far. past_unmodified cells p (omega (arith, far))) ∙ sym (as_range cells)

-- cells with the same tags have the same list
pub modified_same : (old new : List Cell) → ((p : ℕ) → is_modified_at new p ≡ is_modified_at old p) → modified_places old ≡ modified_places new
modified_same old new same =
    modified_only new (modified_places old) (modified_rises old) (λ p. modified_held old p ∙ ap (listed_if p) (sym (same p)))

-- one attribute more is modified
pub modified_more : (old new : List Cell) (xs ys : List ℕ) (q : ℕ) → xs ≡ modified_places old → IsRising itself ys
    → ((p : ℕ) → at_place itself ys p ≡ cond (eqb q p) (Some (unwrap_or (at_place itself xs p) q)) (at_place itself xs p))
    → ((p : ℕ) → is_modified_at new p ≡ (eqb q p || is_modified_at old p)) → ys ≡ modified_places new
modified_more old new xs ys q is rises added marks =
    modified_only new ys rises (λ p.
    let held : at_place itself xs p ≡ listed_if p (is_modified_at old p) = ap (λ zs. at_place itself zs p) is ∙ modified_held old p in
    added p ∙ ap (λ o. cond (eqb q p) (Some (unwrap_or o q)) o) held ∙ told (eqb q p) (is_modified_at old p) p (λ here. eqb-true q p here) ∙ ap (listed_if p) (sym (marks p)))
  where
    told : (t u : Bool) (p : ℕ) → (t ≡ true → q ≡ p) → cond t (Some (unwrap_or (listed_if p u) q)) (listed_if p u) ≡ listed_if p (t || u)
    told true true p here = refl
    told true false p here = ap (λ x. Some x) (here refl)
    told false u p here = refl
