-- A part of a line that a reader showed.
use Rattle.std.proofs.Common.{◌≡◌, ◌≢◌, ◌↔◌, ◌≤◌, ◌<◌, ◌-◌, ◌+◌, ℕ, Bool, true, false, All, List, [], length, take, Option, None, Some, refl, sym, ◌∙◌, ap, subst, arith, take-take, take_all, length-take-le, get_or-take}
use Rattle.std.specs.Prelude.{slice_index, IfSome, OnSome}
use Rattle.std.specs.Io.{StartsWith, StopsAt}
use Rattle.std.specs.Io.KnownBytes.{Consumes, IsAtEnd, Keeps}
use Rattle.std.specs.Io.BufRead.{DropsConsumable}
use Rattle.std.proofs.BufReadLemmas.{Consumes_shown}
use Rattle.std.proofs.Transfers.{StopsAt-take}
use Rattle.std.proofs.lemmas.List.Elements.{All-more}
use Rattle.cli_commands.specs.NextLine.{EndsPart, ReadsFront}
use Rattle.cli_commands.proofs.ShownLines.{shown_front}

-- no LF stands before the last byte, nor there
none_in : (part : List ℕ) → StopsAt part 10 → 0 < length part → (slice_index part (length part - 1) ≡ 10 → ⊥) → All (λ b. b ≢ 10) part
none_in part stops some other =
    subst (All (λ b. b ≢ 10)) (take_all (length part - 1 + 1) part (omega arith))
    (All-more (λ b. b ≢ 10) part (length part - 1) 0 (omega arith) stops other)

part_ends : (ends : Bool) (part : List ℕ) (old new : Option (List ℕ)) → StopsAt part 10 → (ends ≡ false → 0 < length part)
    → (0 < length part → (ends ≡ true) ↔ (slice_index part (length part - 1) ≡ 10)) → (length part ≡ 0 → OnSome old (IsAtEnd new)) → EndsPart ends part old new
part_ends true part old new stops some last none = (stops, λ more. (last more).0 refl, none)
part_ends false part old new stops some last none =
    none_in part stops (some refl) (λ is. false_true ((last (some refl)).1 is))
  where
    false_true : false ≡ true → ⊥
    false_true is = cc

-- what a part took, and where it ends
pub part_taken : (a b c : Option (List ℕ)) (buffered : Option ℕ) (shown seen : List ℕ) (most count : ℕ) (ends : Bool) → 0 < most → seen ≡ take (length seen) shown
    → length seen ≤ most → length seen ≤ length shown → (0 < most → length seen ≡ 0 → length shown ≡ 0) → count ≤ length seen → (count ≡ 0 → length seen ≡ 0)
    → All (λ b. b ≢ 10) (take (count - 1) seen) → IfSome a (λ xs. StartsWith xs shown) → IfSome a (λ xs. length shown ≡ 0 → xs ≡ []) → Keeps a b
    → IfSome a (λ _. IfSome buffered (λ k. length shown ≤ k)) → DropsConsumable b c buffered count → (ends ≡ false → 0 < length (take count seen))
    → (0 < length (take count seen) → (ends ≡ true) ↔ (slice_index (take count seen) (length (take count seen) - 1) ≡ 10))
    → (length (take count seen) ≤ most) × Consumes a c (take count seen) × EndsPart ends (take count seen) a c
part_taken a b c buffered shown seen most count ends room front few inside some within none before begins end keeps fits drops more last =
    let whole : take count shown ≡ take count seen = sym (ap (take count) front ∙ take-take count (length seen) shown within) in
    let counts : length (take count seen) ≡ count = length-take-le count seen within in
    let moved = Consumes_shown a b c buffered shown count (omega arith) begins end keeps fits drops in (
      omega arith,
      subst (Consumes a c) whole moved.0,
      part_ends ends (take count seen) a c (StopsAt-take seen 10 count within before) more last (λ empty. moved.1 (some room (none (sym counts ∙ empty)))),
    )

-- what whole lines took
pub whole_taken : (a b c : Option (List ℕ)) (buffered : Option ℕ) (shown seen : List ℕ) (count : ℕ) → seen ≡ take (length seen) shown
    → length seen ≤ length shown → count ≤ length seen → (0 < count → slice_index seen (count - 1) ≡ 10) → IfSome a (λ xs. StartsWith xs shown) → IfSome a (λ xs. length shown ≡ 0 → xs ≡ []) → Keeps a b
    → IfSome a (λ _. IfSome buffered (λ k. length shown ≤ k)) → DropsConsumable b c buffered count
    → IfSome a (λ xs. ReadsFront xs (take count seen) c)
whole_taken a b c buffered shown seen count front inside within last begins end keeps fits drops =
    let whole : take count shown ≡ take count seen = sym (ap (take count) front ∙ take-take count (length seen) shown within) in
    let counts : length (take count seen) ≡ count = length-take-le count seen within in
    let moved = Consumes_shown a b c buffered shown count (omega arith) begins end keeps fits drops in
    let place : length (take count seen) - 1 ≡ count - 1 = omega (arith, counts) in
    shown_front a c (take count seen) (subst (Consumes a c) whole moved.0)
    (λ more.
    let some : 0 < count = omega (arith, counts, more) in
    ap (slice_index (take count seen)) place ∙ get_or-take count seen (count - 1) 0 (omega (arith, some)) ∙ last some)

-- nothing was taken
pub none_taken : (a b : Option (List ℕ)) → Keeps a b → IfSome a (λ xs. ReadsFront xs [] b)
none_taken None b keeps = tt
none_taken (Some xs) None keeps = absurd keeps
none_taken (Some xs) (Some ys) keeps = shown_front (Some xs) (Some ys) [] (sym keeps) (λ some. absurd (omega (arith, some)))
