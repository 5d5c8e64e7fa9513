-- What entries are looked up by, where one more comes behind them.
use Rattle.std.proofs.Common.{◌≡◌, ◌∙◌, ℕ, suc, ◌+◌, Bool, true, false, ◌||◌, cond, not, eqb, ltb, bytes_eq, String, List, [], ◌∷◌, ◌++◌, length, Option, Some, None, is_some, option_map, unwrap_or, refl, sym, ap, arith, inl, inr}
use Rattle.std.specs.Prelude.{position}
use Rattle.std.specs.BTreeSet.{BTreeSet, contains_text, Updates}
use Rattle.std.specs.List.{position_or_len, list_any}
use Rattle.std.specs.String.{string_cmp, string_bytes}
use Rattle.std.proofs.lemmas.Bool.{cond-true, cond-false, cases_lt, cases_eq, eq-eqb, ne_eqb, lt-ltb, le-ltb}
use Rattle.std.proofs.lemmas.Cmp.{nat_list_eq_equiv}
use Rattle.std.proofs.lemmas.List.Folds.{list_any-append}
use Rattle.std.proofs.lemmas.Map.Text.{btree_set_updates_text}
use Rattle.ds_places.specs.Places.{IsRising, at_place}
use Rattle.scr_layout.specs.declared.located.Located.{Located}
use Rattle.scr_layout.specs.Entry.{Declared}
use Rattle.scr_layout.specs.Located.{AreLocated, AreNamed}
use Rattle.scr_layout.specs.Rows.{has_name, has_place}

-- ---- positions

found_cons : (b : Bool) (n m : ℕ)
    → cond {A = Option ℕ} (ltb (cond (not b) (1 + n) 0) (suc m)) (Some (cond (not b) (1 + n) 0)) None ≡ cond b (Some 0) (option_map (λ k. 1 + k) (cond (ltb n m) (Some n) None))
found_cons true n m = cond-true (ltb 0 (suc m)) _ _ (lt-ltb 0 (suc m) (omega arith))
found_cons false n m =
    elim (cases_lt n m) [
      | inl less ↦ cond-true (ltb (1 + n) (suc m)) _ _ (lt-ltb _ _ (omega arith)) ∙ sym (ap (option_map (λ k. 1 + k)) (cond-true (ltb n m) (Some n) None (lt-ltb _ _ less)))
      | inr far ↦ cond-false (ltb (1 + n) (suc m)) _ _ (le-ltb _ _ (omega arith)) ∙ sym (ap (option_map (λ k. 1 + k)) (cond-false (ltb n m) (Some n) None (le-ltb _ _ far)))
    ]

position_cons : {X : Type 0} (p : X → Bool) (x : X) (xs : List X) → position p (x ∷ xs) ≡ cond (p x) (Some 0) (option_map (λ k. 1 + k) (position p xs))
position_cons p x xs = found_cons (p x) (position_or_len p xs) (length xs)

-- the first of two that is there
unfoldable either : Option ℕ → Option ℕ → Option ℕ
either (Some x) other = Some x
either None other = other

further : (b c : Bool) (o : Option ℕ) (n : ℕ)
    → cond b (Some 0) (option_map (λ k. 1 + k) (either o (cond c (Some n) None))) ≡ either (cond b (Some 0) (option_map (λ k. 1 + k) o)) (cond c (Some (suc n)) None)
unfolding either
further true c o n = refl
further false c (Some k) n = refl
further false true None n = ap Some (omega arith)
further false false None n = refl

position_push : {X : Type 0} (p : X → Bool) (xs : List X) (y : X) → position p (xs ++ y ∷ []) ≡ either (position p xs) (cond (p y) (Some (length xs)) None)
unfolding either
position_push p [] y = position_cons p y []
position_push p (x ∷ xs) y =
    position_cons p x (xs ++ y ∷ [])
    ∙ ap (λ o. cond (p x) (Some 0) (option_map (λ k. 1 + k) o)) (position_push p xs y)
    ∙ further (p x) (p y) (position p xs) (length xs)
    ∙ ap (λ o. either o (cond (p y) (Some (suc (length xs))) None)) (sym (position_cons p x xs))

some_cons : (b : Bool) (o : Option ℕ) → is_some (cond b (Some 0) (option_map (λ k. 1 + k) o)) ≡ (b || is_some o)
some_cons true o = refl
some_cons false (Some k) = refl
some_cons false None = refl

some_position : {X : Type 0} (p : X → Bool) (xs : List X) → is_some (position p xs) ≡ list_any p xs
some_position p [] = refl
some_position p (x ∷ xs) = ap is_some (position_cons p x xs) ∙ some_cons (p x) (position p xs) ∙ ap (λ b. p x || b) (some_position p xs)

-- ---- places

either_none : (o : Option ℕ) → either o None ≡ o
unfolding either
either_none None = refl
either_none (Some x) = refl

first_kept : (o : Option Located) (new : Located) → either (option_map (λ located. located.index) o) (Some new.index) ≡ Some ((unwrap_or o new).index)
unfolding either
first_kept None new = refl
first_kept (Some l) new = refl

-- one more at the end
pub located_push : (entries : List Declared) (table now : List Located) (entry : Declared) (new : Located)
    → AreLocated entries table → new.place ≡ entry.place → new.index ≡ length entries → IsRising (λ located. located.place) now
    → ((q : ℕ) → at_place (λ located. located.place) now q
    ≡ cond (eqb new.place q) (Some (unwrap_or (at_place (λ located. located.place) table q) new)) (at_place (λ located. located.place) table q))
    → AreLocated (entries ++ entry ∷ []) now
located_push entries table now entry new before same last rising added = record {
  rising = rising;
  found = λ q.
      let held : Option Located = at_place (λ located. located.place) table q in
      let indexed : Option Located → Option ℕ = λ o. option_map (λ located. located.index) o in
      let due : position (λ e. eqb q e.place) (entries ++ entry ∷ []) ≡ either (indexed held) (cond (eqb q entry.place) (Some (length entries)) None) =
      position_push (λ e. eqb q e.place) entries entry ∙ ap (λ o. either o (cond (eqb q entry.place) (Some (length entries)) None)) (sym (before.found q)) in
      elim (cases_eq q entry.place) [
        | inl here ↦
            ap indexed (added q ∙ cond-true (eqb new.place q) _ _ (eq-eqb _ _ (same ∙ sym here)))
            ∙ sym (first_kept held new)
            ∙ ap (λ n. either (indexed held) (Some n)) last
            ∙ sym (ap (either (indexed held)) (cond-true (eqb q entry.place) _ _ (eq-eqb _ _ here)))
            ∙ sym due
        | inr apart ↦
            ap indexed (added q ∙ cond-false (eqb new.place q) _ _ (ne_eqb _ _ (λ e. apart (sym e ∙ same))))
            ∙ sym (either_none (indexed held))
            ∙ sym (ap (either (indexed held)) (cond-false (eqb q entry.place) _ _ (ne_eqb _ _ apart)))
            ∙ sym due
      ];
}

some_index : (o : Option Located) → is_some o ≡ is_some (option_map (λ located. located.index) o)
some_index None = refl
some_index (Some l) = refl

pub located_any : (entries : List Declared) (table : List Located) (place : ℕ) → AreLocated entries table
    → (held : Option Located) → held ≡ at_place (λ located. located.place) table place → is_some held ≡ has_place place entries
located_any entries table place at held same =
    ap is_some same ∙
    some_index (at_place (λ located. located.place) table place) ∙ ap is_some (at.found place) ∙ some_position (λ entry. eqb place entry.place) entries

-- ---- names

one_more : (b c : Bool) → cond b true c ≡ (c || (b || false))
one_more true true = refl
one_more true false = refl
one_more false true = refl
one_more false false = refl

pub named_push : {Y : Type 0} (entries : List Declared) (names now : BTreeSet (String Y)) (key : String Y) (entry : Declared)
    → AreNamed entries names → string_bytes key ≡ entry.name → Updates string_cmp names now key true → AreNamed (entries ++ entry ∷ []) now
named_push entries names now key entry before same updates = λ name.
    btree_set_updates_text (string_bytes key) names now true updates name
    ∙ ap (λ bs. cond (bytes_eq bs name) true (contains_text names name)) same
    ∙ ap (λ b. cond b true (contains_text names name)) (nat_list_eq_equiv.symm entry.name name)
    ∙ ap (λ b. cond (bytes_eq name entry.name) true b) (before name)
    ∙ one_more (bytes_eq name entry.name) (has_name name entries)
    ∙ sym (list_any-append (λ e. bytes_eq name e.name) entries (entry ∷ []))
