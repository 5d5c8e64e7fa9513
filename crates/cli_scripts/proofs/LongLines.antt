-- A line that is too long is read to its end, part by part.
use Rattle.std.proofs.Common.{◌≡◌, ◌≢◌, ◌==◌, ◌&&◌, ◌+◌, ◌-◌, ◌<◌, ◌≤◌, ℕ, Bool, true, false, nat_lt, List, [], ◌++◌, length, length-append, Some, None, refl, sym, ap, ◌∙◌, subst, inl, inr, arith, append_assoc}
use Rattle.std.specs.Prelude.{Option, All, IfSome, slice_index}
use Rattle.std.specs.Io.{StopsAt, IsEmptyOrEndsWith}
use Rattle.std.specs.Io.BufRead.{take_through, drop_through}
use Rattle.std.proofs.BufReadLemmas.{Consumes_through, take_through-append}
use Rattle.std.proofs.lemmas.Bool.{eqb-true}
use Rattle.std.proofs.lemmas.Bool.Decides.{nat_tests}
use Rattle.std.proofs.lemmas.List.{take_all}
use Rattle.std.proofs.lemmas.List.Elements.{All-append, All-more, All-nil}
use Rattle.bstr.specs.Text.{without_terminator}
use Rattle.cli_commands.specs.NextLine.{EndsOrLong, ReadsSome}
use Rattle.cli_commands.proofs.NextLines.{one_line, without_long}
use Rattle.cli_scripts.specs.Runs.{PassedSoFar, PassesLine, has_end}

some_true : (n : ℕ) → 0 < n → nat_lt 0 n ≡ true
some_true n some = grind (arith, nat_tests)

same_true : (b : ℕ) → b ≡ 10 → (b == 10) ≡ true
same_true b is = grind (arith, nat_tests)

both_true : (a b : Bool) → a ≡ true → b ≡ true → (a && b) ≡ true
both_true true true first second = refl
both_true true false first second = absurd cc
both_true false b first second = absurd cc

second_true : (a b : Bool) → (a && b) ≡ true → b ≡ true
second_true true true both = refl
second_true true false both = absurd cc
second_true false b both = absurd cc

never : (b : Bool) → b ≡ true → b ≡ false → ⊥
never true is isnt = absurd cc
never false is isnt = absurd cc

last_other : (part : List ℕ) → 0 < length part → has_end part ≡ false → slice_index part (length part - 1) ≢ 10
last_other part some none =
    λ is. never (has_end part) (both_true (nat_lt 0 (length part)) (slice_index part (length part - 1) == 10) (some_true (length part) some)
    (same_true (slice_index part (length part - 1)) is)) none

last_is : (part : List ℕ) → has_end part ≡ true → slice_index part (length part - 1) ≡ 10
last_is part ends =
    eqb-true (slice_index part (length part - 1)) 10 (second_true (nat_lt 0 (length part)) (slice_index part (length part - 1) == 10) ends)

-- a part without its end has no LF
none_in : (part : List ℕ) → 0 < length part → StopsAt part 10 → has_end part ≡ false → All (λ b. b ≢ 10) part
none_in part some stop none =
    let count : length part ≤ length part - 1 + 1 = omega (arith, some) in
    subst (All (λ b. b ≢ 10)) (take_all (length part - 1 + 1) part count)
    (All-more (λ b. b ≢ 10) part (length part - 1) 0 (omega (arith, some)) stop (last_other part some none))

pub passed_none : (known : Option (List ℕ)) (line : List ℕ) → 16777216 < length line
    → IfSome known (λ bytes. PassedSoFar line bytes line known 0 × EndsOrLong line known)
passed_none None line long = tt
passed_none (Some bytes) line long = (([], bytes, refl, refl, All-nil (λ b. b ≢ 10), omega arith, omega arith), inr (inr long))

-- a part that another follows is long
is_long : (part rest line rest_new : List ℕ) (now : Option (List ℕ)) → 0 < length part → has_end part ≡ false → EndsOrLong part now → now ≡ Some rest
    → rest ≡ line ++ rest_new → 0 < length line → 16777216 < length part
is_long part rest line rest_new now some none (inl ends) at is more = absurd (last_other part some none ends)
is_long part rest line rest_new now some none (inr (inl over)) at is more =
    let nothing : rest ≡ [] = same_some rest [] (sym at ∙ over) in
    let sum : length rest ≡ length line + length rest_new = ap length is ∙ length-append line rest_new in
    absurd (omega (arith, sum, ap length nothing, more))
  where
    same_some : (a b : List ℕ) → Some a ≡ Some b → a ≡ b
    same_some a b same = cc
is_long part rest line rest_new now some none (inr (inr long)) at is more = long

pub passed_more : (known now left : Option (List ℕ)) (read part line : List ℕ) (parts : ℕ) → 0 < length part → has_end part ≡ false → StopsAt part 10
    → IfSome known (λ bytes. PassedSoFar read bytes part now parts × EndsOrLong part now) → IfSome now (λ bytes. ReadsSome bytes true line left)
    → IfSome now (λ bytes. EndsOrLong line left) → IfSome known (λ bytes. PassedSoFar read bytes line left (parts + 1) × EndsOrLong line left)
passed_more None now left read part line parts some none stop so reads ends = tt
passed_more (Some bytes) None left read part line parts some none stop ((front, rest, is, at, all, many, more), long) reads ends = absurd cc
passed_more (Some bytes) (Some before) left read part line parts some none stop ((front, rest, is, at, all, many, more), long) (next, (rest_new, left_is, cut, apart)) ends =
    let here : before ≡ rest = same_some before rest at in
    let split : rest ≡ line ++ rest_new = sym here ∙ cut in
    let enough : 16777216 < length part = is_long part rest line rest_new (Some before) some none long at split next in
    let both : length (front ++ part) ≡ length front + length part = length-append front part in (
      (
        front ++ part,
        rest_new,
        is ∙ ap (λ z. front ++ (part ++ z)) split ∙ sym (append_assoc front part (line ++ rest_new)),
        left_is,
        All-append (λ b. b ≢ 10) front part all (none_in part some stop none),
        omega (arith, many, enough, both),
        omega (arith, more, both),
      ),
      ends,
    )
  where
    same_some : (a b : List ℕ) → Some a ≡ Some b → a ≡ b
    same_some a b same = cc

-- ---- the line's end

ends_there : (read bytes done part rest : List ℕ) (left : Option (List ℕ)) → read ++ bytes ≡ done ++ (part ++ rest) → All (λ b. b ≢ 10) done
    → StopsAt part 10 → IsEmptyOrEndsWith part 10 → (length part ≡ 0 → rest ≡ []) → left ≡ Some rest → 16777216 < length read
    → length read ≤ length done + length part → PassesLine read bytes left
ends_there read bytes done part rest left is none stop ends over at long more =
    let through = Consumes_through 10 (Some (done ++ (part ++ rest))) (Some (part ++ rest)) (Some rest) done part refl none refl stop ends over in
    let first : take_through 10 (read ++ bytes) ≡ done ++ part = ap (take_through 10) is ∙ sym through.0 in
    let last : Some rest ≡ Some (drop_through 10 (read ++ bytes)) = through.1 ∙ ap (λ z. Some (drop_through 10 z)) (sym is) in
    let count : length (take_through 10 (read ++ bytes)) ≡ length done + length part = ap length first ∙ length-append done part in
    let all : length (read ++ bytes) ≡ length read + length bytes = length-append read bytes in (
      without_terminator (take_through 10 (read ++ bytes)),
      drop_through 10 (read ++ bytes),
      one_line (read ++ bytes) (omega (arith, all, long)),
      omega (arith, without_long (take_through 10 (read ++ bytes)), count, more, long),
      λ short. at ∙ last,
    )

pub passed_ended : (known now : Option (List ℕ)) (read part : List ℕ) (parts : ℕ) → 16777216 < length read → 0 < length part → has_end part ≡ true
    → StopsAt part 10 → IfSome known (λ bytes. PassedSoFar read bytes part now parts × EndsOrLong part now) → IfSome known (λ bytes. PassesLine read bytes now)
passed_ended None now read part parts long some ends stop so = tt
passed_ended (Some bytes) now read part parts long some ends stop ((front, rest, is, at, all, many, more), how) =
    ends_there read bytes front part rest now is all stop (λ _. last_is part ends) (λ nothing. absurd (omega (arith, nothing, some))) at long more

pub passed_over : (known now left : Option (List ℕ)) (read part line : List ℕ) (parts : ℕ) → 16777216 < length read → 0 < length part
    → has_end part ≡ false → StopsAt part 10 → line ≡ []
    → IfSome known (λ bytes. PassedSoFar read bytes part now parts × EndsOrLong part now) → IfSome now (λ bytes. ReadsSome bytes false line left)
    → IfSome now (λ bytes. EndsOrLong line left) → IfSome known (λ bytes. PassesLine read bytes left)
passed_over None now left read part line parts long some none stop empty so reads ends = tt
passed_over (Some bytes) None left read part line parts long some none stop empty ((front, rest, is, at, all, many, more), how) reads ends = absurd cc
passed_over (Some bytes) (Some before) left read part line parts long some none stop empty ((front, rest, is, at, all, many, more), how) reads ends =
    let nothing : rest ≡ [] = sym (same_some before rest at) ∙ reads in
    let both : length (front ++ part) ≡ length front + length part = length-append front part in
    ends_there read bytes (front ++ part) [] [] left (is ∙ ap (λ z. front ++ (part ++ z)) nothing ∙ sym (append_assoc front part []))
    (All-append (λ b. b ≢ 10) front part all (none_in part some stop none)) (All-nil (λ b. b ≢ 10)) (λ never_some. absurd (omega (arith, never_some)))
    (λ _. refl) (over_by line left empty ends) long (omega (arith, both, more))
  where
    same_some : (a b : List ℕ) → Some a ≡ Some b → a ≡ b
    same_some a b same = cc

    over_by : (line : List ℕ) (left : Option (List ℕ)) → line ≡ [] → EndsOrLong line left → left ≡ Some []
    over_by line left empty (inl ends) = absurd (subst (λ z. slice_index z (length z - 1) ≡ 10 → ⊥) (sym empty) (λ is. absurd cc) ends)
    over_by line left empty (inr (inl over)) = over
    over_by line left empty (inr (inr long)) = absurd (omega (arith, long, ap length empty))

pub passed_many : (known now : Option (List ℕ)) (read part : List ℕ) (parts : ℕ) → 16777216 < length read → 18446744073709551615 ≤ parts
    → IfSome known (λ bytes. PassedSoFar read bytes part now parts × EndsOrLong part now) → IfSome known (λ bytes. PassesLine read bytes now)
passed_many None now read part parts long many so = tt
passed_many (Some bytes) now read part parts long many ((front, rest, is, at, all, counts, more), how) =
    let whole : take_through 10 (read ++ bytes) ≡ front ++ take_through 10 (part ++ rest) = ap (take_through 10) is ∙ take_through-append 10 front (part ++ rest) all in
    let count : length (take_through 10 (read ++ bytes)) ≡ length front + length (take_through 10 (part ++ rest)) = ap length whole ∙ length-append front (take_through 10 (part ++ rest)) in
    let sum : length (read ++ bytes) ≡ length read + length bytes = length-append read bytes in
    let lost : length (take_through 10 (read ++ bytes)) ≤ length (without_terminator (take_through 10 (read ++ bytes))) + 2 = without_long (take_through 10 (read ++ bytes)) in (
      without_terminator (take_through 10 (read ++ bytes)),
      drop_through 10 (read ++ bytes),
      one_line (read ++ bytes) (omega (arith, sum, long)),
      omega (arith, lost, count, counts, many),
      λ short. absurd (omega (arith, lost, count, counts, many, short)),
    )
