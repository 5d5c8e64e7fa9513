-- Lines that a reader shows.
use Rattle.std.proofs.Common.{◌≡◌, ◌==◌, ℕ, zero, suc, ◌+◌, ◌-◌, ◌<◌, ◌≤◌, not, Bool, length-append, List, [], ◌++◌, length, map, true, false, refl, sym, ◌∙◌, ap, subst, inl, inr, arith, append_assoc}
use Rattle.std.specs.Prelude.{slice_index, Option, None, Some, IfSome, OnSome}
use Rattle.std.specs.Io.KnownBytes.{Consumes, IsAtEnd}
use Rattle.std.proofs.lemmas.Bool.{eqb-true}
use Rattle.std.proofs.lemmas.List.{append-nil, map-append, nil_from_length, get_or-append-add}
use Rattle.bstr.specs.Text.{lines_of, without_terminator}
use Rattle.bstr.proofs.lemmas.LineLemmas.{EndsLine, lines-append, lines-nil}
use Rattle.cli_commands.specs.Lines.{lines_in}
use Rattle.cli_commands.specs.NextLine.{EndsOrLong, ReadsFront, ReadsSome}

-- lines break behind an LF, and at the end
lines_apart : (xs ys : List ℕ) → EndsLine xs → lines_in (xs ++ ys) ≡ lines_in xs ++ lines_in ys
lines_apart xs ys ends = ap (map without_terminator) (lines-append (length xs) xs ys (omega arith) ends) ∙ map-append without_terminator (lines_of xs) (lines_of ys)

-- the last byte of a part is that of all of it
last_of : (done part : List ℕ) → 0 < length part → slice_index (done ++ part) (length (done ++ part) - 1) ≡ slice_index part (length part - 1)
last_of done part some =
    let place : length (done ++ part) - 1 ≡ length done + (length part - 1) = omega (arith, length-append done part) in
    ap (slice_index (done ++ part)) place ∙ get_or-append-add done part (length part - 1) 0

apart : (done part rest : List ℕ) → (0 < length part → slice_index part (length part - 1) ≡ 10) → (length part ≡ 0 → rest ≡ []) → lines_in ((done ++ part) ++ rest) ≡ lines_in (done ++ part) ++ lines_in rest
apart done part rest last end = by_length (length part) refl
  where
    by_length : (n : ℕ) → length part ≡ n → lines_in ((done ++ part) ++ rest) ≡ lines_in (done ++ part) ++ lines_in rest
    by_length zero none =
        subst (λ z. lines_in ((done ++ part) ++ z) ≡ lines_in (done ++ part) ++ lines_in z) (sym (end none))
        (ap lines_in (append-nil (done ++ part)) ∙ sym (append-nil (lines_in (done ++ part))) ∙ ap (λ z. lines_in (done ++ part) ++ map without_terminator z) (sym lines-nil))
    by_length (suc n) some = lines_apart (done ++ part) rest (inr (last_of done part (omega (arith, some)) ∙ last (omega (arith, some))))

at_end : (b c : Option (List ℕ)) (ys zs : List ℕ) → b ≡ Some ys → c ≡ Some zs → OnSome b (IsAtEnd c) → zs ≡ []
at_end b c ys zs is so end = subst IsAtEnd so (subst (λ o. OnSome o (IsAtEnd c)) is end)

pub lines_ended : (a b c : Option (List ℕ)) (done part lines : List ℕ) (empty : Bool) → lines ≡ done ++ part → Consumes a b done → Consumes b c part
    → (0 < length part → slice_index part (length part - 1) ≡ 10) → (length part ≡ 0 → OnSome b (IsAtEnd c)) → empty ≡ (length lines == 0) → IfSome a (λ xs. ReadsSome xs (not empty) lines c)
lines_ended None b c done part lines empty joined first last ends end is = tt
lines_ended (Some xs) None c done part lines empty joined first last ends end is = absurd first
lines_ended (Some xs) (Some ys) None done part lines empty joined first last ends end is = absurd last
lines_ended (Some xs) (Some ys) (Some zs) done part lines true joined first last ends end is =
    let none : length lines ≡ 0 = eqb-true (length lines) 0 (sym is) in
    let no_part : length part ≡ 0 = omega (arith, none, ap length joined, length-append done part) in
    let no_done : length done ≡ 0 = omega (arith, none, ap length joined, length-append done part) in
    let over : zs ≡ [] = end no_part in
    first ∙ ap (λ l. l ++ ys) (nil_from_length done no_done) ∙ last ∙ ap (λ l. l ++ zs) (nil_from_length part no_part) ∙ over
lines_ended (Some xs) (Some ys) (Some zs) done part lines false joined first last ends end is =
    let all : xs ≡ lines ++ zs = first ∙ ap (λ l. done ++ l) last ∙ sym (append_assoc done part zs) ∙ ap (λ l. l ++ zs) (sym joined) in (
      some_length (length lines) (sym is),
      (zs, refl, all, inl (ap lines_in all ∙ subst (λ l. lines_in (l ++ zs) ≡ lines_in l ++ lines_in zs) (sym joined) (apart done part zs ends end))),
    )
  where
    some_length : (n : ℕ) → (n == 0) ≡ false → 0 < n
    some_length zero none = absurd cc
    some_length (suc n) none = omega arith

pub lines_long : (a b c : Option (List ℕ)) (done part lines : List ℕ) → lines ≡ done ++ part → Consumes a b done → Consumes b c part → 16777219 ≤ length lines
    → IfSome a (λ xs. ReadsSome xs true lines c)
lines_long None b c done part lines joined first last long = tt
lines_long (Some xs) None c done part lines joined first last long = absurd first
lines_long (Some xs) (Some ys) None done part lines joined first last long = absurd last
lines_long (Some xs) (Some ys) (Some zs) done part lines joined first last long =
    (omega (arith, long), (zs, refl, first ∙ ap (λ l. done ++ l) last ∙ sym (append_assoc done part zs) ∙ ap (λ l. l ++ zs) (sym joined), inr (omega (arith, long))))

-- a line's last part ends it, or nothing is left
pub ends_so : (a b c : Option (List ℕ)) (done part line : List ℕ) → line ≡ done ++ part → Consumes a b done → Consumes b c part
    → (0 < length part → slice_index part (length part - 1) ≡ 10) → (length part ≡ 0 → OnSome b (IsAtEnd c)) → IfSome a (λ xs. EndsOrLong line c)
ends_so None b c done part line joined first last ends end = tt
ends_so (Some xs) None c done part line joined first last ends end = absurd first
ends_so (Some xs) (Some ys) None done part line joined first last ends end = absurd last
ends_so (Some xs) (Some ys) (Some zs) done part line joined first last ends end = by_length (length part) refl
  where
    by_length : (n : ℕ) → length part ≡ n → EndsOrLong line (Some zs)
    by_length zero none = inr (inl (ap Some (end none)))
    by_length (suc n) some =
        let more : 0 < length part = omega (arith, some) in
        inl (ap (λ z. slice_index z (length z - 1)) joined ∙ last_of done part more ∙ ends more)

pub ends_long : (a c : Option (List ℕ)) (line : List ℕ) → 16777219 ≤ length line → IfSome a (λ xs. EndsOrLong line c)
ends_long None c line long = tt
ends_long (Some xs) c line long = inr (inr (omega (arith, long)))

-- whole lines that were shown are read from the front, or nothing is
pub shown_front : (a c : Option (List ℕ)) (front : List ℕ) → Consumes a c front → (0 < length front → slice_index front (length front - 1) ≡ 10)
    → IfSome a (λ xs. ReadsFront xs front c)
shown_front None c front takes ends = tt
shown_front (Some xs) None front takes ends = absurd takes
shown_front (Some xs) (Some ys) front takes ends = (ys, refl, takes, inl (ap lines_in takes ∙ lines_apart front ys (ends_line (length front) refl)))
  where
    ends_line : (n : ℕ) → length front ≡ n → EndsLine front
    ends_line zero none = inl none
    ends_line (suc n) some = inr (ends (omega (arith, some)))
