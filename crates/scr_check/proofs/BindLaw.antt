-- Binding field by field gives a pair for each field, no entry twice, and nothing else does.
use Rattle.std.proofs.Common.{◌≡◌, ℕ, ◌≤◌, ◌||◌, Bool, true, false, List, [], ◌∷◌, ◌++◌, map, length, Option, Some, None, Result, Ok, Err, refl, sym, ◌∙◌, ap, subst, arith, inl, inr, append_assoc, append-nil}
use Rattle.std.specs.Prelude.{nat_eq, nat_lt, slice_get}
use Rattle.std.specs.List.{IsDistinct, AllByRecursion, list_any}
use Rattle.std.specs.Cmp.{nat_eq_equiv}
use Rattle.std.proofs.lemmas.Bool.{cases_Bool, cond-true, cond-false}
use Rattle.std.proofs.lemmas.Bool.Decides.{nat_tests}
use Rattle.std.proofs.lemmas.List.{map-append}
use Rattle.std.proofs.lemmas.Map.Keys.{IsDistinct-push, IsDistinct-tail, IsDistinct-head}
use Rattle.ds_codec.specs.Reading.{◌>>=◌}
use Rattle.ds_codec.specs.Character.{Glyph}
use Rattle.ds_inbound.specs.Answer.{Sent, Answer}
use Rattle.scr_layout.specs.Entry.{Declared}
use Rattle.scr_check.specs.declared.binding.BindFault.{BindFault}
use Rattle.scr_check.specs.declared.binding.BindFault.TheVariants.{NotDeclared}
use Rattle.scr_check.specs.Findings.{entry_at}
use Rattle.scr_check.specs.Binding.{Pair, is_bound, at_index, bound_at, bound_by, bound_field, bound_from, bound_behind, bound_of}
use Rattle.scr_check.specs.Bindable.{IsPairOf, ArePairsOf, Binds, BindsExactly}
use Rattle.scr_check.proofs.BoundLaw.{list_any-map}

abbrev indices : List Pair → List ℕ
indices pairs = map (λ pair. pair.entry) pairs

-- ---- one field
record Fits (entries : List Declared) (bound : List Pair) (field : Sent) (pair : Pair) : Type 0 where
  pub of : IsPairOf entries field pair
  pub new : is_bound pair.entry bound ≡ false

err≢ok : {A : Type 0} {e : BindFault} {a : A} → ◌≡◌ {A = Result A BindFault} (Err e) (Ok a) → ⊥
err≢ok e = cc

ok_same : {A : Type 0} {a b : A} → ◌≡◌ {A = Result A BindFault} (Ok a) (Ok b) → a ≡ b
ok_same e = cc

at_entry : (bound : List Pair) (field : Sent) (index : ℕ) (entry : Declared) (pair : Pair) → bound_at bound field index entry ≡ Ok pair
    → (is_bound index bound ≡ false) × (length field.characters ≤ entry.length) × (pair ≡ record { entry = index; characters = field.characters })
at_entry bound field index entry pair is =
    elim (cases_Bool (is_bound index bound)) [
      | inl twice ↦ absurd (err≢ok (sym (cond-true (is_bound index bound) _ _ twice) ∙ is))
      | inr new ↦
          let next = sym (cond-false (is_bound index bound) _ _ new) ∙ is in
          elim (cases_Bool (nat_lt entry.length (length field.characters))) [
            | inl longer ↦ absurd (err≢ok (sym (cond-true (nat_lt entry.length (length field.characters)) _ _ longer) ∙ next))
            | inr short ↦ (new, grind (arith, nat_tests), sym (ok_same (sym (cond-false (nat_lt entry.length (length field.characters)) _ _ short) ∙ next)))
          ]
    ]

fits_of : (entries : List Declared) (bound : List Pair) (field : Sent) (index : ℕ) (found : Option Declared) (pair : Pair)
    → entry_at entries field.place ≡ Some index → slice_get entries index ≡ found
    → at_index (Err NotDeclared) (bound_at bound field index) found ≡ Ok pair → Fits entries bound field pair
fits_of entries bound field index None pair here declared is = absurd (err≢ok is)
fits_of entries bound field index (Some entry) pair here declared is =
    let parts = at_entry bound field index entry pair is in
    let same : pair.entry ≡ index = ap (λ p. p.entry) parts.2 in
    record {
      of = record {
        entry = entry;
        here = here ∙ ap Some (sym same);
        declared = ap (slice_get entries) same ∙ declared;
        short = parts.1;
        same = ap (λ p. p.characters) parts.2;
      };
      new = ap (λ i. is_bound i bound) same ∙ parts.0;
    }

fits_by : (entries : List Declared) (bound : List Pair) (field : Sent) (index : Option ℕ) (pair : Pair) → entry_at entries field.place ≡ index
    → bound_by entries bound field index ≡ Ok pair → Fits entries bound field pair
fits_by entries bound field None pair here is = absurd (err≢ok is)
fits_by entries bound field (Some index) pair here is = fits_of entries bound field index (slice_get entries index) pair here refl is

fits : (entries : List Declared) (bound : List Pair) (field : Sent) (pair : Pair) → bound_field entries bound field ≡ Ok pair → Fits entries bound field pair
fits entries bound field pair is = fits_by entries bound field (entry_at entries field.place) pair refl is

same_pair : (pair : Pair) (field : Sent) → pair.characters ≡ field.characters → record { entry = pair.entry; characters = field.characters } ≡ pair
same_pair pair field same = ap (λ cs. record { entry = pair.entry; characters = cs }) (sym same)

bound_again : (entries : List Declared) (bound : List Pair) (field : Sent) (pair : Pair) → IsPairOf entries field pair → is_bound pair.entry bound ≡ false
    → bound_field entries bound field ≡ Ok pair
bound_again entries bound field pair of new =
    ap (bound_by entries bound field) of.here
    ∙ ap (at_index (Err NotDeclared) (bound_at bound field pair.entry)) of.declared
    ∙ cond-false (is_bound pair.entry bound) _ _ new
    ∙ cond-false (nat_lt of.entry.length (length field.characters)) _ _ (not_longer of.entry.length (length field.characters) of.short)
    ∙ ap Ok (same_pair pair field of.same)
  where
    not_longer : (declared count : ℕ) → count ≤ declared → nat_lt declared count ≡ false
    not_longer declared count short = grind (arith, nat_tests)

-- ---- all fields
record Given (entries : List Declared) (bound : List Pair) (fields : List Sent) (pairs : List Pair) : Type 0 where
  pub more : List Pair
  pub parts : pairs ≡ bound ++ more
  pub paired : ArePairsOf entries fields more
  pub once : IsDistinct nat_eq (indices pairs)

pushed : (bound : List Pair) (pair : Pair) → IsDistinct nat_eq (indices bound) → is_bound pair.entry bound ≡ false → IsDistinct nat_eq (indices (bound ++ pair ∷ []))
pushed bound pair once new =
    let apart : list_any (nat_eq pair.entry) (indices bound) ≡ false = list_any-map (λ p. p.entry) (nat_eq pair.entry) bound ∙ new in
    subst (IsDistinct nat_eq) (sym (map-append (λ p. p.entry) bound (pair ∷ []))) (IsDistinct-push nat_eq_equiv (indices bound) pair.entry once apart)

bound_next : (entries : List Declared) (bound : List Pair) (field : Sent) (fields : List Sent) (pairs : List Pair) (step : Result Pair BindFault)
    → bound_field entries bound field ≡ step → (step >>= λ pair. bound_from entries (bound ++ pair ∷ []) fields) ≡ Ok pairs
    → (pair : Pair) × (Fits entries bound field pair × (bound_from entries (bound ++ pair ∷ []) fields ≡ Ok pairs))
bound_next entries bound field fields pairs (Err fault) step is = absurd (err≢ok is)
bound_next entries bound field fields pairs (Ok pair) step is = (pair, (fits entries bound field pair step, is))

given : (entries : List Declared) (bound : List Pair) (fields : List Sent) (pairs : List Pair) → IsDistinct nat_eq (indices bound)
    → bound_from entries bound fields ≡ Ok pairs → Given entries bound fields pairs
given entries bound [] pairs once is =
    record { more = []; parts = sym (ok_same is) ∙ sym (append-nil bound); paired = tt; once = subst (λ ps. IsDistinct nat_eq (indices ps)) (ok_same is) once }
given entries bound (field ∷ fields) pairs once is =
    let next = bound_next entries bound field fields pairs (bound_field entries bound field) refl is in
    let pair : Pair = next.0 in
    let rest : Given entries (bound ++ pair ∷ []) fields pairs = given entries (bound ++ pair ∷ []) fields pairs (pushed bound pair once next.1.0.new) next.1.1 in
    record {
      more = pair ∷ rest.more;
      parts = rest.parts ∙ append_assoc bound (pair ∷ []) rest.more;
      paired = (next.1.0.of, rest.paired);
      once = rest.once;
    }

-- a key with other keys before it, all distinct, is none of them
passes_at : (P : ℕ → Type 0) (xs ys : List ℕ) (y : ℕ) → AllByRecursion P (xs ++ y ∷ ys) → P y
passes_at P [] ys y all = all.0
passes_at P (x ∷ xs) ys y all = passes_at P xs ys y all.1

neither : (s t : Bool) → s ≡ false → t ≡ false → (s || t) ≡ false
neither false false e f = refl
neither false true e f = f
neither true t e f = e

apart_before : (xs ys : List ℕ) (y : ℕ) → IsDistinct nat_eq (xs ++ y ∷ ys) → list_any (nat_eq y) xs ≡ false
apart_before [] ys y once = refl
apart_before (x ∷ xs) ys y once =
    neither (nat_eq y x) (list_any (nat_eq y) xs)
    (nat_eq_equiv.symm y x ∙ passes_at (λ z. nat_eq x z ≡ false) xs ys y (IsDistinct-head nat_eq x (xs ++ y ∷ ys) once))
    (apart_before xs ys y (IsDistinct-tail nat_eq x (xs ++ y ∷ ys) once))

taken_so : (entries : List Declared) (bound : List Pair) (fields : List Sent) (more : List Pair) → IsDistinct nat_eq (indices (bound ++ more))
    → ArePairsOf entries fields more → bound_from entries bound fields ≡ Ok (bound ++ more)
taken_so entries bound [] [] once paired = ap Ok (sym (append-nil bound))
taken_so entries bound [] (pair ∷ pairs) once paired = absurd paired
taken_so entries bound (field ∷ fields) [] once paired = absurd paired
taken_so entries bound (field ∷ fields) (pair ∷ pairs) once paired =
    let new : is_bound pair.entry bound ≡ false =
    sym (list_any-map (λ p. p.entry) (nat_eq pair.entry) bound)
    ∙ apart_before (indices bound) (indices pairs) pair.entry (subst (IsDistinct nat_eq) (map-append (λ p. p.entry) bound (pair ∷ pairs)) once) in
    let step : bound_field entries bound field ≡ Ok pair = bound_again entries bound field pair paired.0 new in
    let assoc : (bound ++ pair ∷ []) ++ pairs ≡ bound ++ pair ∷ pairs = append_assoc bound (pair ∷ []) pairs in
    ap (λ r. r >>= λ p. bound_from entries (bound ++ p ∷ []) fields) step
    ∙ taken_so entries (bound ++ pair ∷ []) fields pairs (subst (λ ps. IsDistinct nat_eq (indices ps)) (sym assoc) once) paired.1
    ∙ ap Ok assoc

behind : (entries : List Declared) (lead : List Glyph) (fields : List Sent) (pairs : List Pair) → bound_behind entries lead fields ≡ Ok pairs
    → (lead ≡ []) × (bound_from entries [] fields ≡ Ok pairs)
behind entries [] fields pairs is = (refl, is)
behind entries (character ∷ characters) fields pairs is = absurd (err≢ok is)

no_keys : IsDistinct nat_eq (indices [])
unfolding IsDistinct
no_keys = tt

binds_so : (entries : List Declared) (answer : Answer) (pairs : List Pair) → bound_of entries answer ≡ Ok pairs → Binds entries answer pairs
binds_so entries answer pairs is =
    let parts = behind entries answer.lead answer.fields pairs is in
    let all : Given entries [] answer.fields pairs = given entries [] answer.fields pairs no_keys parts.1 in
    record { lead = parts.0; paired = subst (ArePairsOf entries answer.fields) (sym all.parts) all.paired; once = all.once }

bound_so : (entries : List Declared) (answer : Answer) (pairs : List Pair) → Binds entries answer pairs → bound_of entries answer ≡ Ok pairs
bound_so entries answer pairs binds =
    ap (λ lead. bound_behind entries lead answer.fields) binds.lead ∙ taken_so entries [] answer.fields pairs binds.once binds.paired

pub binds_exactly : BindsExactly
binds_exactly entries answer pairs = (binds_so entries answer pairs, bound_so entries answer pairs)
