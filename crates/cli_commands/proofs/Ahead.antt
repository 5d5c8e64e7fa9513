-- What was read ahead of a stream, and what comes of it.
use Rattle.std.proofs.Common.{◌≡◌, ◌≤◌, ◌<◌, ℕ, List, [], ◌∷◌, ◌++◌, length, take, drop, refl, sym, ◌∙◌, ap, subst, inl, inr, arith, append_assoc, append-nil}
use Rattle.std.proofs.lemmas.Bool.{cases_lt}
use Rattle.std.proofs.Math.Seq.{take-append_seam}
use Rattle.std.proofs.lemmas.List.{drop-append-le, take_all, take-append-drop}
use Rattle.std.specs.Prelude.{Option, None, Some, IfSome}
use Rattle.std.specs.Io.{StartsWith}
use Rattle.std.specs.Io.KnownBytes.{Consumes, IsAtEnd, Keeps, prepend_known}
use Rattle.std.specs.Io.BufRead.{DropsConsumable}

module _ (a rest : Option (List ℕ)) (ahead shown : List ℕ) (is : shown ≡ ahead) (keeps : Keeps a (prepend_known ahead rest)) where
  pub begins : IfSome a (λ xs. StartsWith xs shown)
  begins =
      elim a as (λ o. Keeps o (prepend_known ahead rest) → IfSome o (λ xs. StartsWith xs shown)) [
        | None ↦ λ kept. tt
        | Some xs ↦ elim rest as (λ r. Keeps (Some xs) (prepend_known ahead r) → StartsWith xs shown) [
          | None ↦ λ kept. absurd kept
          | Some ys ↦ λ kept. subst (λ s. take (length s) xs ≡ s) (sym is) (subst (λ z. take (length ahead) z ≡ ahead) kept (take-append_seam ahead ys))
        ]
      ] keeps

  pub empty_at_end : (ahead ≡ [] → IsAtEnd rest) → IfSome a (λ xs. length shown ≡ 0 → xs ≡ [])
  empty_at_end end =
      elim a as (λ o. Keeps o (prepend_known ahead rest) → IfSome o (λ xs. length shown ≡ 0 → xs ≡ [])) [
        | None ↦ λ kept. tt
        | Some xs ↦ elim rest as (λ r. (ahead ≡ [] → IsAtEnd r) → Keeps (Some xs) (prepend_known ahead r) → length shown ≡ 0 → xs ≡ []) [
          | None ↦ λ at kept. absurd kept
          | Some ys ↦ λ at kept none.
              let nothing : ahead ≡ [] = none_long ahead (ap length (sym is) ∙ none) in
              sym kept ∙ ap (λ z. z ++ ys) nothing ∙ at nothing
        ] end
      ] keeps
    where
      none_long : (xs : List ℕ) → length xs ≡ 0 → xs ≡ []
      none_long xs none = elim xs as (λ l. length l ≡ 0 → l ≡ []) [ [] ↦ λ e. refl | x ∷ l ↦ λ e. absurd (omega (arith, e)) ] none

  pub fits : IfSome a (λ _. IfSome (Some (length ahead)) (λ k. length shown ≤ k))
  fits = elim a as (λ o. IfSome o (λ _. IfSome (Some (length ahead)) (λ k. length shown ≤ k))) [ None ↦ tt | Some xs ↦ let same : length shown ≡ length ahead = ap length is in omega arith ]

pub drops : (rest : Option (List ℕ)) (ahead after : List ℕ) (count : ℕ) → after ≡ drop count ahead
    → DropsConsumable (prepend_known ahead rest) (prepend_known after rest) (Some (length ahead)) count
drops None ahead after count is = tt
drops (Some ys) ahead after count is = λ few. ap (λ z. Some (z ++ ys)) is ∙ ap (λ z. Some z) (sym (drop-append-le count ahead ys few))

-- nothing was there, and a read gave this
pub filled : (a rest : Option (List ℕ)) (part : List ℕ) → Consumes a rest part → Keeps a (prepend_known part rest)
filled None rest part takes = tt
filled (Some xs) None part takes = absurd takes
filled (Some xs) (Some ys) part takes = sym takes

pub same_keeps : (a : Option (List ℕ)) → Keeps a a
same_keeps None = tt
same_keeps (Some xs) = refl

pub empty_keeps : (a b : Option (List ℕ)) → Keeps a b → Keeps (prepend_known [] a) (prepend_known [] b)
empty_keeps None b keeps = tt
empty_keeps (Some xs) None keeps = absurd keeps
empty_keeps (Some xs) (Some ys) keeps = keeps

-- a read that was made again
pub keeps_on : (a b c : Option (List ℕ)) → Keeps a b → Keeps b c → Keeps a c
keeps_on None b c first last = tt
keeps_on (Some x) None c first last = absurd first
keeps_on (Some x) (Some y) None first last = absurd last
keeps_on (Some x) (Some y) (Some z) first last = last ∙ first

pub consumes_on : (a b c : Option (List ℕ)) (part : List ℕ) → Keeps a b → Consumes b c part → Consumes a c part
consumes_on None b c part first last = tt
consumes_on (Some x) None c part first last = absurd first
consumes_on (Some x) (Some y) None part first last = absurd last
consumes_on (Some x) (Some y) (Some z) part first last = sym first ∙ last

-- ---- a whole text

pub consumes_kept : (a b c : Option (List ℕ)) (text : List ℕ) → Consumes a b text → Keeps b c → Consumes a c text
consumes_kept None b c text takes keeps = tt
consumes_kept (Some x) None c text takes keeps = absurd takes
consumes_kept (Some x) (Some y) None text takes keeps = absurd keeps
consumes_kept (Some x) (Some y) (Some z) text takes keeps = takes ∙ ap (λ l. text ++ l) (sym keeps)

pub consumes_more : (a b c : Option (List ℕ)) (text part : List ℕ) → Consumes a b text → Consumes b c part → Consumes a c (text ++ part)
consumes_more None b c text part first last = tt
consumes_more (Some x) None c text part first last = absurd first
consumes_more (Some x) (Some y) None text part first last = absurd last
consumes_more (Some x) (Some y) (Some z) text part first last = first ∙ ap (λ l. text ++ l) last ∙ sym (append_assoc text part z)

pub consumes_none : (a : Option (List ℕ)) → Consumes a (prepend_known [] a) []
consumes_none None = tt
consumes_none (Some x) = refl

pub at_end : (rest : Option (List ℕ)) (ahead : List ℕ) → length ahead ≡ 0 → (ahead ≡ [] → IsAtEnd rest) → IsAtEnd (prepend_known ahead rest)
at_end None ahead none end = tt
at_end (Some ys) ahead none end = let nothing : ahead ≡ [] = none_long ahead none in ap (λ z. z ++ ys) nothing ∙ end nothing
  where
    none_long : (xs : List ℕ) → length xs ≡ 0 → xs ≡ []
    none_long [] e = refl
    none_long (x ∷ xs) e = absurd (omega (arith, e))

-- all was read, or as much as shows that it is too much
pub all_read : (a b : Option (List ℕ)) (text : List ℕ) → Consumes a b text → length text ≤ 16777217 → (length text < 16777217 → IsAtEnd b)
    → IfSome a (λ input. text ≡ take 16777217 input)
all_read None b text takes few end = tt
all_read (Some xs) None text takes few end = absurd takes
all_read (Some xs) (Some ys) text takes few end =
    elim (cases_lt (length text) 16777217) [
      | inl short ↦
          let whole : xs ≡ text = takes ∙ ap (λ l. text ++ l) (end short) ∙ append-nil text in
          sym whole ∙ sym (take_all 16777217 xs (omega (arith, ap length whole)))
      | inr long ↦
          let full : length text ≡ 16777217 = omega arith in
          sym (ap (λ n. take n xs) (sym full) ∙ ap (take (length text)) takes ∙ take-append_seam text ys)
    ]

-- a part that was shown was taken
pub shown_taken : (a rest : Option (List ℕ)) (ahead shown seen : List ℕ) → shown ≡ ahead → Keeps a (prepend_known ahead rest) → seen ≡ take (length seen) shown
    → length seen ≤ length shown → Consumes a (prepend_known (drop (length seen) ahead) rest) seen
shown_taken None rest ahead shown seen is keeps front inside = tt
shown_taken (Some xs) None ahead shown seen is keeps front inside = absurd keeps
shown_taken (Some xs) (Some ys) ahead shown seen is keeps front inside =
    let cut : seen ≡ take (length seen) ahead = front ∙ ap (take (length seen)) is in
    sym keeps ∙ ap (λ z. z ++ ys) (sym (take-append-drop (length seen) ahead) ∙ ap (λ z. z ++ drop (length seen) ahead) (sym cut))
    ∙ append_assoc seen (drop (length seen) ahead) ys
