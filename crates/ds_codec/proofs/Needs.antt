-- How many positions the orders of a record need, one order after the other.
use Rattle.std.proofs.Common.{◌≡◌, ℕ, ◌+◌, ◌<◌, max, cond, Bool, true, false, ◌&&◌, leb, List, [], ◌∷◌, drop, None, Result, Ok, Err, Ordering, Less, Equal, Greater, refl, sym, ◌∙◌, arith, inl, inr}
use Rattle.std.specs.Prelude.{IsOk, nat_le, ltb, eqb}
use Rattle.std.specs.Ordering.{nat_cmp, ord_max, is_lt}
use Rattle.std.specs.Cmp.{nat_cmp_is}
use Rattle.std.proofs.lemmas.Bool.{cases_Bool, le-leb, lt-leb, leb-true, leb-false, ltb-true, ltb-false, eqb-true, eqb-false}
use Rattle.ds_codec.specs.declared.size.Mode.{Mode}
use Rattle.ds_codec.specs.declared.refused.Refused.{Refused}
use Rattle.ds_codec.specs.Order.{Item, Site}
use Rattle.ds_codec.specs.Reading.{front, orders_from, sites_in, refusal_in}
use Rattle.ds_codec.specs.Surely.{are_surely_done, IsNeedOf, IsNeedOfAll, IsNeedBefore}
use Rattle.ds_codec.proofs.Walk.{first_is}

-- so many positions are there exactly where both numbers of them are
pub max_le : (a b c : ℕ) → nat_le (max a b) c ≡ (nat_le a c && nat_le b c)
max_le a b c = elim (cases_Bool (leb a c)) [
  | inl is ↦ elim (cases_Bool (leb b c)) [
    | inl both ↦ rw (is, both) (le-leb (max a b) c (omega (arith, leb-true a c is, leb-true b c both)))
    | inr not_b ↦ rw (is, not_b) (lt-leb (max a b) c (omega (arith, leb-false b c not_b)))
  ]
  | inr not_a ↦ rw not_a (lt-leb (max a b) c (omega (arith, leb-false a c not_a)))
]

of_order : (a b : ℕ) (r : Ordering) → r ≡ nat_cmp b a → cond (is_lt r) a b ≡ max a b → ord_max nat_cmp a b ≡ max a b
of_order a b r is e = rw (sym is) e

-- the greater of two as the code takes it
pub greater_is : (a b : ℕ) → ord_max nat_cmp a b ≡ max a b
greater_is a b = elim (cases_Bool (ltb b a)) [
  | inl below ↦ of_order a b Less (nat_cmp_is b a Less (ltb-true b a below)) (omega (arith, ltb-true b a below))
  | inr not_below ↦ elim (cases_Bool (eqb b a)) [
    | inl same ↦ of_order a b Equal (nat_cmp_is b a Equal (eqb-true b a same)) (omega (arith, eqb-true b a same))
    | inr other ↦ of_order a b Greater (nat_cmp_is b a Greater (omega (arith, ltb-false b a not_below, eqb-false b a other))) (omega (arith, ltb-false b a not_below))
  ]
]

both_and : (a b c : Bool) → (a && (b && c)) ≡ ((a && b) && c)
both_and true b c = refl
both_and false b c = refl

pub and_true : (a : Bool) → (a && true) ≡ a
and_true true = refl
and_true false = refl

-- nothing was refused, so all was read
pub none_refused : {A E : Type 0} → (r : Result A E) → refusal_in r ≡ None → IsOk r
none_refused (Ok found) e = refl
none_refused (Err why) e = absurd cc

pub none_refused_in : {A E : Type 0} → (r : Result A E) → IsOk r → refusal_in r ≡ None
none_refused_in (Ok found) ok = refl
none_refused_in (Err why) ok = absurd cc

-- the first of the orders before the rest
need_on : (need own : ℕ) (site : Site) (rest orders : List Site) → IsNeedOf own site.order → IsNeedBefore need (site ∷ rest) orders → IsNeedBefore (max need own) rest orders
need_on need own site rest orders of-own so-far = λ cells few.
    so-far cells few ∙ rw (of-own cells few, max_le need own cells) (both_and (nat_le need cells) (nat_le own cells) (are_surely_done cells rest))

pub needs_on : (mode : Mode) (at : ℕ) (rest : List ℕ) (order : Item) (n need own : ℕ) (total : Result (List Site) Refused)
    → front mode rest ≡ Ok (order, n) → 0 < n → refusal_in (orders_from mode 0 at rest) ≡ refusal_in total → IsNeedOf own order
    → (IsOk total → IsNeedBefore need (sites_in (orders_from mode 0 at rest)) (sites_in total))
    → IsOk total → IsNeedBefore (max need own) (sites_in (orders_from mode 0 (at + n) (drop n rest))) (sites_in total)
needs_on mode at rest order n need own total read some same of-own so-far ok =
    let good : IsOk (orders_from mode 0 at rest) = none_refused _ (same ∙ none_refused_in total ok) in
    let first = first_is mode at rest order n read some good in
    need_on need own (record { at = at; order = order }) (sites_in (orders_from mode 0 (at + n) (drop n rest))) (sites_in total) of-own (rw first at (so-far ok))

-- at the end no order is left
pub needs_all : (need : ℕ) (orders : List Site) → IsNeedBefore need [] orders → IsNeedOfAll need orders
needs_all need orders so-far = λ cells few. so-far cells few ∙ and_true (nat_le need cells)
