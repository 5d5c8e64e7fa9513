-- Texts cut at their first LF.
use Rattle.std.proofs.Common.{◌≡◌, ◌<◌, ℕ, suc, ◌+◌, Bool, true, false, List, [], ◌∷◌, ◌++◌, length, take, drop, Some, None, refl, sym, ap, ◌∙◌, arith}
use Rattle.std.specs.List.{position_or_len, before_first, after_first}
use Rattle.std.proofs.lemmas.List.{append_assoc}
use Rattle.std.proofs.lemmas.List.Sums.{position_or_len_is}
use Rattle.memchr.specs.Find.{IsFirstByte, is_byte}
use Rattle.cli_characters.specs.Lines.{is_feed, parts_of, by_lines}

-- ---- where an LF stands

pub bool_false : (b : Bool) → (b ≡ true → ⊥) → b ≡ false
bool_false true never = absurd (never refl)
bool_false false never = refl

pub feed_at : (text : List ℕ) (place : ℕ) → IsFirstByte (is_byte 10) text (Some place) → (position_or_len is_feed text ≡ place) × (place < length text)
feed_at text place (first, is) = (position_or_len_is is_feed text place 0 (omega (arith, first.high)) (λ k less. bool_false _ (first.before k (omega arith) less)) (λ inside. is), first.high)

pub no_feed : (text : List ℕ) → IsFirstByte (is_byte 10) text None → position_or_len is_feed text ≡ length text
no_feed text none = position_or_len_is is_feed text (length text) 0 (omega arith) (λ k less. bool_false _ (none k (omega arith) less)) (λ inside. absurd (omega arith))

-- ---- parts

take_front : (c : ℕ) (cs : List ℕ) (n : ℕ) → take (1 + n) (c ∷ cs) ≡ c ∷ take n cs
take_front c cs n = let one : 1 + n ≡ suc n = omega arith in rw one refl

drop_front : (c : ℕ) (cs : List ℕ) (n : ℕ) → drop (1 + n + 1) (c ∷ cs) ≡ drop (n + 1) cs
drop_front c cs n = let one : 1 + n + 1 ≡ suc (n + 1) = omega arith in rw one refl

cut_front : (b : Bool) (c : ℕ) (cs : List ℕ) → is_feed c ≡ b → (position_or_len is_feed cs < length cs → parts_of cs ≡ before_first is_feed cs ∷ parts_of (after_first is_feed cs))
    → position_or_len is_feed (c ∷ cs) < length (c ∷ cs) → parts_of (c ∷ cs) ≡ before_first is_feed (c ∷ cs) ∷ parts_of (after_first is_feed (c ∷ cs))
cut_front true c cs is inner less = rw is refl
cut_front false c cs is inner less = let there : 1 + position_or_len is_feed cs < length (c ∷ cs) = rw is at less in
    rw (is, inner (omega arith)) (rw (take_front c cs (position_or_len is_feed cs), drop_front c cs (position_or_len is_feed cs)) refl)

-- a text with an LF is its first line and what follows
pub cut : (text : List ℕ) → position_or_len is_feed text < length text → parts_of text ≡ before_first is_feed text ∷ parts_of (after_first is_feed text)
cut [] less = absurd (omega arith)
cut (c ∷ cs) less = cut_front (is_feed c) c cs refl (cut cs) less

whole_front : (b : Bool) (c : ℕ) (cs : List ℕ) → is_feed c ≡ b → (position_or_len is_feed cs ≡ length cs → parts_of cs ≡ cs ∷ [])
    → position_or_len is_feed (c ∷ cs) ≡ length (c ∷ cs) → parts_of (c ∷ cs) ≡ (c ∷ cs) ∷ []
whole_front true c cs is inner same = let none : 0 ≡ length (c ∷ cs) = rw is at same in absurd (omega arith)
whole_front false c cs is inner same =
    let there : 1 + position_or_len is_feed cs ≡ length (c ∷ cs) = rw is at same in
    rw (is, inner (omega arith)) refl

-- a text without an LF is one
pub whole : (text : List ℕ) → position_or_len is_feed text ≡ length text → parts_of text ≡ text ∷ []
whole [] same = refl
whole (c ∷ cs) same = whole_front (is_feed c) c cs refl (whole cs) same

-- there is always one
pub some_parts : (text : List ℕ) → (first : List ℕ) × (others : List (List ℕ)) × (parts_of text ≡ first ∷ others)
some_parts [] = ([], [], refl)
some_parts (c ∷ cs) = with_front (is_feed c) c cs refl (some_parts cs)
  where
    with_front : (b : Bool) (c : ℕ) (cs : List ℕ) → is_feed c ≡ b → ((first : List ℕ) × (others : List (List ℕ)) × (parts_of cs ≡ first ∷ others))
        → (first : List ℕ) × (others : List (List ℕ)) × (parts_of (c ∷ cs) ≡ first ∷ others)
    with_front true c cs is there = ([], parts_of cs, rw is refl)
    with_front false c cs is there = (c ∷ there.0, there.1, rw (is, there.2) refl)

-- ---- texts by their lines

pub by_first : (written : List ℕ → List ℕ) (text : List ℕ) → position_or_len is_feed text < length text
    → by_lines written text ≡ written (before_first is_feed text) ++ (10 ∷ by_lines written (after_first is_feed text))
by_first written text less = let there = some_parts (after_first is_feed text) in rw (cut text less, there.2) refl

pub by_whole : (written : List ℕ → List ℕ) (text : List ℕ) → position_or_len is_feed text ≡ length text → by_lines written text ≡ written text
by_whole written text same = rw (whole text same) refl

-- what was written of a first line stands before what will be of those after it
pub goes_on : (written : List ℕ → List ℕ) (before text due line rest : List ℕ) → before ++ by_lines written text ≡ due
    → (line ≡ before_first is_feed text) × (rest ≡ after_first is_feed text) × (position_or_len is_feed text < length text)
    → ((before ++ written line) ++ (10 ∷ [])) ++ by_lines written rest ≡ due
goes_on written before text due line rest is (same, after, less) =
    rw (same, after, append_assoc (before ++ written (before_first is_feed text)) (10 ∷ []) (by_lines written (after_first is_feed text)), append_assoc before (written (before_first is_feed text)) (10 ∷ by_lines written (after_first is_feed text)))
    (ap (λ more. before ++ more) (sym (by_first written text less)) ∙ is)

-- the last is written as it is
pub ends_so : (written : List ℕ → List ℕ) (before text due : List ℕ) → before ++ by_lines written text ≡ due → position_or_len is_feed text ≡ length text
    → before ++ written text ≡ due
ends_so written before text due is same = ap (λ more. before ++ more) (sym (by_whole written text same)) ∙ is
