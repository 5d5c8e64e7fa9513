-- The layout that a screen is taken for.
use Rattle.std.proofs.Common.{◌≡◌, ℕ, Bool, true, false, cond, List, [], ◌∷◌, length, Option, Some, None, refl, sym, ◌∙◌, ap, subst, inl, inr, arith, true≢false}
use Rattle.std.specs.Prelude.{◌⊎◌, ◌&&◌, ◌||◌, ◌==◌, nat_lt}
use Rattle.std.proofs.lemmas.Bool.Decides.{nat_tests}
use Rattle.ds_screen.specs.Picture.{Picture}
use Rattle.script_checks.specs.Named.{Named, matches, comes_first, precedes, IsAmong, Chooses, better, better_of, best_after, chosen, IsFound, HaveNames, OrderIsNothing}

-- ---- names

head_itself : (byte : ℕ) (p : Bool) → p ≡ true → cond (byte == byte) p (nat_lt byte byte) ≡ true
head_itself byte p same = grind (arith, nat_tests)

name_itself : (name : List ℕ) → comes_first name name ≡ true
name_itself [] = refl
name_itself (byte ∷ bytes) = head_itself byte (comes_first bytes bytes) (name_itself bytes)

head_total : (x y : ℕ) (p q : Bool) → (p ≡ false → q ≡ true) → cond (x == y) p (nat_lt x y) ≡ false → cond (y == x) q (nat_lt y x) ≡ true
head_total x y p q rest is = grind (arith, nat_tests)

name_total : (one other : List ℕ) → comes_first one other ≡ false → comes_first other one ≡ true
name_total [] other is = absurd (true≢false is)
name_total (x ∷ xs) [] is = refl
name_total (x ∷ xs) (y ∷ ys) is = head_total x y (comes_first xs ys) (comes_first ys xs) (name_total xs ys) is

head_chain : (x y z : ℕ) (p q r : Bool) → (p ≡ true → q ≡ true → r ≡ true) → cond (x == y) p (nat_lt x y) ≡ true → cond (y == z) q (nat_lt y z) ≡ true
    → cond (x == z) r (nat_lt x z) ≡ true
head_chain x y z p q r rest a b = grind (arith, nat_tests)

name_chain : (one other third : List ℕ) → comes_first one other ≡ true → comes_first other third ≡ true → comes_first one third ≡ true
name_chain [] other third a b = refl
name_chain (x ∷ xs) [] third a b = absurd (true≢false (sym a))
name_chain (x ∷ xs) (y ∷ ys) [] a b = absurd (true≢false (sym b))
name_chain (x ∷ xs) (y ∷ ys) (z ∷ zs) a b = head_chain x y z (comes_first xs ys) (comes_first ys zs) (comes_first xs zs) (name_chain xs ys zs) a b

head_same : (x y : ℕ) (p q : Bool) → cond (x == y) p (nat_lt x y) ≡ true → cond (y == x) q (nat_lt y x) ≡ true → x ≡ y
head_same x y p q a b = grind (arith, nat_tests)

tail_same : (x y : ℕ) (p q : Bool) → cond (x == y) p (nat_lt x y) ≡ true → cond (y == x) q (nat_lt y x) ≡ true → p ≡ true
tail_same x y p q a b = grind (arith, nat_tests)

name_same : (one other : List ℕ) → comes_first one other ≡ true → comes_first other one ≡ true → one ≡ other
name_same [] [] a b = refl
name_same [] (y ∷ ys) a b = absurd (true≢false (sym b))
name_same (x ∷ xs) [] a b = absurd (true≢false (sym a))
name_same (x ∷ xs) (y ∷ ys) a b =
    let p = comes_first xs ys in
    let q = comes_first ys xs in
    let heads : x ≡ y = head_same x y p q a b in
    let tails : xs ≡ ys = name_same xs ys (tail_same x y p q a b) (tail_same y x q p b a) in
    cc

-- ---- layouts

count_total : (m n : ℕ) (p q : Bool) → (p ≡ false → q ≡ true) → (nat_lt n m || ((m == n) && p)) ≡ false → (nat_lt m n || ((n == m) && q)) ≡ true
count_total m n p q rest is = grind (arith, nat_tests)

other_precedes : (one other : Named) → precedes one other ≡ false → precedes other one ≡ true
other_precedes one other is =
    count_total (length one.layout.entries) (length other.layout.entries) (comes_first one.name other.name) (comes_first other.name one.name) (name_total one.name other.name) is

count_chain : (l m n : ℕ) (p q r : Bool) → (p ≡ true → q ≡ true → r ≡ true) → (nat_lt m l || ((l == m) && p)) ≡ true → (nat_lt n m || ((m == n) && q)) ≡ true
    → (nat_lt n l || ((l == n) && r)) ≡ true
count_chain l m n p q r rest a b = grind (arith, nat_tests)

precedes_on : (one other third : Named) → precedes one other ≡ true → precedes other third ≡ true → precedes one third ≡ true
precedes_on one other third a b =
    count_chain (length one.layout.entries) (length other.layout.entries) (length third.layout.entries) (comes_first one.name other.name) (comes_first other.name third.name) (comes_first one.name third.name)
    (name_chain one.name other.name third.name) a b

count_itself : (n : ℕ) (p : Bool) → p ≡ true → (nat_lt n n || ((n == n) && p)) ≡ true
count_itself n p same = grind (arith, nat_tests)

precedes_itself : (one : Named) → precedes one one ≡ true
precedes_itself one = count_itself (length one.layout.entries) (comes_first one.name one.name) (name_itself one.name)

count_same : (m n : ℕ) (p q : Bool) → (nat_lt n m || ((m == n) && p)) ≡ true → (nat_lt m n || ((n == m) && q)) ≡ true → p ≡ true
count_same m n p q a b = grind (arith, nat_tests)

names_same : (one other : Named) → precedes one other ≡ true → precedes other one ≡ true → one.name ≡ other.name
names_same one other a b =
    let m = length one.layout.entries in
    let n = length other.layout.entries in
    let p = comes_first one.name other.name in
    let q = comes_first other.name one.name in
    name_same one.name other.name (count_same m n p q a b) (count_same n m q p b a)

-- ---- the best of those that were seen

record IsBest (v : Picture) (Seen : Named → Type 0) (one : Named) : Type 0 where
  among : Seen one
  good : matches v one.layout ≡ true
  first : (other : Named) → Seen other → matches v other.layout ≡ true → precedes one other ≡ true

abbrev Best : Picture → (Named → Type 0) → Option Named → Type 0
Best v Seen None = (one : Named) → Seen one → matches v one.layout ≡ false
Best v Seen (Some one) = IsBest v Seen one

abbrev with_one : (Named → Type 0) → Named → Named → Type 0
with_one Seen one other = Seen other ⊎ (one ≡ other)

against : (v : Picture) (one other : Named) (A : Type 0) → matches v one.layout ≡ false → one ≡ other → matches v other.layout ≡ true → A
against v one other A no_match same is = absurd (true≢false (sym is ∙ ap (λ (n : Named). matches v n.layout) (sym same) ∙ no_match))

passed : (v : Picture) (Seen : Named → Type 0) (best : Option Named) (one : Named) → matches v one.layout ≡ false → Best v Seen best → Best v (with_one Seen one) best
passed v Seen None one no_match before = nones
  where
    nones : (other : Named) → with_one Seen one other → matches v other.layout ≡ false
    nones other (inl seen) = before other seen
    nones other (inr same) = ap (λ (n : Named). matches v n.layout) (sym same) ∙ no_match
passed v Seen (Some best) one no_match before =
    record {
      among = inl before.among;
      good = before.good;
      first = firsts;
    }
  where
    firsts : (other : Named) → with_one Seen one other → matches v other.layout ≡ true → precedes best other ≡ true
    firsts other (inl seen) is = before.first other seen is
    firsts other (inr same) is = against v one other (precedes best other ≡ true) no_match same is

taken : (v : Picture) (Seen : Named → Type 0) (best : Option Named) (one : Named) → matches v one.layout ≡ true → Best v Seen best
    → IsBest v (with_one Seen one) (better best one)
taken v Seen None one is before = record { among = inr refl; good = is; first = firsts }
  where
    firsts : (other : Named) → with_one Seen one other → matches v other.layout ≡ true → precedes one other ≡ true
    firsts other (inl seen) good = absurd (true≢false (sym good ∙ before other seen))
    firsts other (inr same) good = subst (λ (n : Named). precedes one n ≡ true) same (precedes_itself one)
taken v Seen (Some best) one is before = by (precedes best one) refl
  where
    keeps : precedes best one ≡ true → (other : Named) → with_one Seen one other → matches v other.layout ≡ true → precedes best other ≡ true
    keeps test other (inl seen) good = before.first other seen good
    keeps test other (inr same) good = subst (λ (n : Named). precedes best n ≡ true) same test

    changes : precedes best one ≡ false → (other : Named) → with_one Seen one other → matches v other.layout ≡ true → precedes one other ≡ true
    changes test other (inl seen) good = precedes_on one best other (other_precedes best one test) (before.first other seen good)
    changes test other (inr same) good = subst (λ (n : Named). precedes one n ≡ true) same (precedes_itself one)

    by : (test : Bool) → precedes best one ≡ test → IsBest v (with_one Seen one) (cond test best one)
    by true test = record { among = inl before.among; good = before.good; first = keeps test }
    by false test = record { among = inr refl; good = is; first = changes test }

one_more : (v : Picture) (Seen : Named → Type 0) (best : Option Named) (one : Named) → Best v Seen best → Best v (with_one Seen one) (better_of v best one)
one_more v Seen best one before = by (matches v one.layout) refl
  where
    by : (test : Bool) → matches v one.layout ≡ test → Best v (with_one Seen one) (cond test (Some (better best one)) best)
    by true is = taken v Seen best one is before
    by false is = passed v Seen best one is before

-- the same layouts are seen
weaker : (v : Picture) (Seen Other : Named → Type 0) (best : Option Named) → ((n : Named) → Seen n → Other n) → ((n : Named) → Other n → Seen n) → Best v Seen best → Best v Other best
weaker v Seen Other None to back before = λ one other. before one (back one other)
weaker v Seen Other (Some best) to back before =
    record { among = to best before.among; good = before.good; first = λ other seen is. before.first other (back other seen) is }

all_seen : (v : Picture) (Seen : Named → Type 0) (best : Option Named) (rest : List Named) → Best v Seen best → Best v (λ n. Seen n ⊎ IsAmong n rest) (best_after v best rest)
all_seen v Seen best [] before = weaker v Seen (λ n. Seen n ⊎ IsAmong n []) best (λ n seen. inl seen) back before
  where
    back : (n : Named) → Seen n ⊎ IsAmong n [] → Seen n
    back n (inl seen) = seen
    back n (inr none) = absurd none
all_seen v Seen best (one ∷ rest) before =
    weaker v (λ n. with_one Seen one n ⊎ IsAmong n rest) (λ n. Seen n ⊎ IsAmong n (one ∷ rest)) (best_after v (better_of v best one) rest) to back
    (all_seen v (with_one Seen one) (better_of v best one) rest (one_more v Seen best one before))
  where
    to : (n : Named) → with_one Seen one n ⊎ IsAmong n rest → Seen n ⊎ IsAmong n (one ∷ rest)
    to n (inl (inl seen)) = inl seen
    to n (inl (inr same)) = inr (inl same)
    to n (inr among) = inr (inr among)

    back : (n : Named) → Seen n ⊎ IsAmong n (one ∷ rest) → with_one Seen one n ⊎ IsAmong n rest
    back n (inl seen) = inl (inl seen)
    back n (inr (inl same)) = inl (inr same)
    back n (inr (inr among)) = inr among

abbrev none_seen : Named → Type 0
none_seen n = ⊥

as_chosen : (v : Picture) (all : List Named) (best : Option Named) → Best v (λ n. none_seen n ⊎ IsAmong n all) best → Chooses v all best
as_chosen v all None before = λ one among. before one (inr among)
as_chosen v all (Some best) before =
    record { among = of before.among; good = before.good; first = λ other among is. before.first other (inr among) is }
  where
    of : none_seen best ⊎ IsAmong best all → IsAmong best all
    of (inl none) = absurd none
    of (inr among) = among

pub is_found : IsFound
is_found v all = as_chosen v all (chosen v all) (all_seen v none_seen None all (λ one none. absurd none))

-- ---- in any order

one_choice : (v : Picture) (all others : List Named) (a b : Option Named) → HaveNames all
    → ((one : Named) → IsAmong one all → IsAmong one others) → ((one : Named) → IsAmong one others → IsAmong one all)
    → Chooses v all a → Chooses v others b → a ≡ b
one_choice v all others None None names to back x y = refl
one_choice v all others None (Some b) names to back x y = absurd (true≢false (sym y.good ∙ x b (back b y.among)))
one_choice v all others (Some a) None names to back x y = absurd (true≢false (sym x.good ∙ y a (to a x.among)))
one_choice v all others (Some a) (Some b) names to back x y =
    ap (λ n. Some n) (names a b x.among (back b y.among) (names_same a b (x.first b (back b y.among) y.good) (y.first a (to a x.among) x.good)))

pub order_is_nothing : OrderIsNothing
order_is_nothing v all others names to back = one_choice v all others (chosen v all) (chosen v others) names to back (is_found v all) (is_found v others)
