-- The next line of a reader.
use Rattle.std.proofs.Common.{◌≡◌, ◌≢◌, ◌==◌, ℕ, zero, suc, ◌+◌, ◌-◌, ◌<◌, ◌≤◌, not, Bool, All, take, drop, length-append, List, [], ◌∷◌, ◌++◌, length, map, true, false, refl, sym, ◌∙◌, ap, subst, inl, inr, arith, append_assoc, length-take-le}
use Rattle.std.specs.Prelude.{nat_lt, ◌&&◌, slice_index, Option, None, Some, IfSome}
use Rattle.std.specs.Io.KnownBytes.{Consumes, IsAtEnd}
use Rattle.std.specs.Io.BufRead.{take_through, drop_through, DropsThrough}
use Rattle.std.proofs.BufReadLemmas.{take_through-append, Consumes_through, IsAtEnd-of_take_through}
use Rattle.std.proofs.lemmas.Bool.{cond_both, eqb-true}
use Rattle.std.specs.Io.{StopsAt}
use Rattle.std.proofs.lemmas.List.Elements.{All-append, All-cons, All-head, All-nil, All-tail, All-take}
use Rattle.bstr.specs.Text.{line_len, lines_of, no_cr, without_terminator}
use Rattle.bstr.proofs.lemmas.LineLemmas.{lines-nil, lines-step}
use Rattle.cli_commands.specs.Lines.{lines_in}
use Rattle.cli_commands.specs.NextLine.{ReadsLine, EndsPart}

by_bool : {P : Type 0} (b : Bool) → (b ≡ true → P) → (b ≡ false → P) → P
by_bool true is other = is refl
by_bool false is other = other refl

taken_line : (bytes : List ℕ) → take (line_len bytes) bytes ≡ take_through 10 bytes
unfolding line_len
taken_line [] = refl
taken_line (b ∷ rest) = by_bool (b == 10) (λ e. rw e refl) (λ e. rw e (ap (λ z. b ∷ z) (taken_line rest)))

dropped_line : (bytes : List ℕ) → drop (line_len bytes) bytes ≡ drop_through 10 bytes
unfolding line_len
dropped_line [] = refl
dropped_line (b ∷ rest) = by_bool (b == 10) (λ e. rw e refl) (λ e. rw e (dropped_line rest))

-- both together are all
counted_line : (bytes : List ℕ) → length (take_through 10 bytes) + length (drop_through 10 bytes) ≡ length bytes
counted_line [] = refl
counted_line (b ∷ rest) = by_bool (b == 10) (λ e. rw e (omega arith)) (λ e. rw e (omega (arith, counted_line rest)))

pub one_line : (bytes : List ℕ) → 0 < length bytes → lines_in bytes ≡ without_terminator (take_through 10 bytes) ∷ lines_in (drop_through 10 bytes)
one_line bytes some =
    ap (map without_terminator) (lines-step bytes some)
    ∙ ap (λ z. without_terminator z ∷ map without_terminator (lines_of (drop (line_len bytes) bytes))) (taken_line bytes)
    ∙ ap (λ z. without_terminator (take_through 10 bytes) ∷ map without_terminator (lines_of z)) (dropped_line bytes)

some_byte : (bytes : List ℕ) → 0 < length (take_through 10 bytes) → 0 < length bytes
some_byte [] less = less
some_byte (b ∷ rest) less = omega arith

reads_line : (known left : Option (List ℕ)) (line : List ℕ) → 0 < length line → IfSome known (λ xs. line ≡ take_through 10 xs) → DropsThrough known left 10
    → IfSome known (λ xs. ReadsLine xs true line left)
reads_line None left line some is drops = tt
reads_line (Some xs) left line some is drops =
    let some_taken : 0 < length (take_through 10 xs) = subst (λ z. 0 < length z) is some in
    let counts : length line + length (drop_through 10 xs) ≡ length xs = ap (λ z. length z + length (drop_through 10 xs)) is ∙ counted_line xs in (
      without_terminator (take_through 10 xs),
      drop_through 10 xs,
      one_line xs (some_byte xs some_taken),
      inl (drops, ap without_terminator is),
      some,
      omega (arith, counts),
      λ short. counts,
    )

reads_none : (known left : Option (List ℕ)) (line : List ℕ) → IsAtEnd known → IfSome known (λ xs. ReadsLine xs false line left)
reads_none None left line none = tt
reads_none (Some xs) left line none = rw none (ap (map without_terminator) lines-nil, refl)

-- its last part was read
reads_so : (known left : Option (List ℕ)) (line : List ℕ) (empty : Bool) → empty ≡ (length line == 0) → IfSome known (λ xs. line ≡ take_through 10 xs)
    → DropsThrough known left 10 → IfSome known (λ xs. ReadsLine xs (not empty) line left)
reads_so known left line true none is drops =
    reads_none known left line (IsAtEnd-of_take_through 10 known [] line is (eqb-true (length line) 0 (sym none)))
reads_so known left line false some is drops = reads_line known left line (some_length (length line) (sym some)) is drops
  where
    some_length : (n : ℕ) → (n == 0) ≡ false → 0 < n
    some_length zero none = absurd cc
    some_length (suc n) none = omega arith

pub reads_ended : (a b c : Option (List ℕ)) (done part line : List ℕ) (empty : Bool) → line ≡ done ++ part → Consumes a b done → All (λ x. x ≢ 10) done → Consumes b c part
    → EndsPart true part b c → empty ≡ (length line == 0) → IfSome a (λ xs. ReadsLine xs (not empty) line c)
reads_ended a b c done part line empty joined first none last (stop, ends, at_end) is =
    let both = Consumes_through 10 a b c done part first none last stop ends at_end in
    reads_so a c line empty is (if_some a (λ xs. done ++ part ≡ take_through 10 xs) (λ xs. line ≡ take_through 10 xs) (λ xs same. joined ∙ same) both.0) both.1
  where
    if_some : (o : Option (List ℕ)) (P Q : List ℕ → Type 0) → ((xs : List ℕ) → P xs → Q xs) → IfSome o P → IfSome o Q
    if_some None P Q f holds = tt
    if_some (Some xs) P Q f holds = f xs holds

-- so much of a line was read that it is too long
no_cr_long : (xs : List ℕ) → length xs ≤ length (no_cr xs) + 1
no_cr_long xs =
    cond_both (nat_lt 0 (length xs) && slice_index xs (length xs - 1) == 13) (take (length xs - 1) xs) xs (λ (ys : List ℕ). length xs ≤ length ys + 1)
    (λ is. omega (arith, length-take-le (length xs - 1) xs (omega arith))) (λ other. omega arith)

pub without_long : (xs : List ℕ) → length xs ≤ length (without_terminator xs) + 2
without_long xs =
    cond_both (nat_lt 0 (length xs) && slice_index xs (length xs - 1) == 10) (no_cr (take (length xs - 1) xs)) xs (λ (ys : List ℕ). length xs ≤ length ys + 2)
    (λ is. omega (arith, length-take-le (length xs - 1) xs (omega arith), no_cr_long (take (length xs - 1) xs)))
    (λ other. omega arith)

reads_long : (known left : Option (List ℕ)) (line : List ℕ) → Consumes known left line → All (λ x. x ≢ 10) line → 16777219 ≤ length line
    → IfSome known (λ xs. ReadsLine xs true line left)
reads_long None left line takes none long = tt
reads_long (Some xs) None line takes none long = absurd takes
reads_long (Some xs) (Some ys) line takes none long =
    let whole : take_through 10 xs ≡ line ++ take_through 10 ys = ap (take_through 10) takes ∙ take_through-append 10 line ys none in
    let counts : length (take_through 10 xs) ≡ length line + length (take_through 10 ys) = ap length whole ∙ length-append line (take_through 10 ys) in (
      without_terminator (take_through 10 xs),
      drop_through 10 xs,
      one_line xs (some_byte xs (omega arith)),
      inr (omega (arith, without_long (take_through 10 xs)), omega (arith, without_long line)),
      omega (arith, long),
      omega (arith, ap length takes, length-append line ys),
      λ short. absurd (not_both (length line) long short),
    )
  where
    not_both : (n : ℕ) → 16777219 ≤ n → n < 16777219 → ⊥
    not_both n low high = omega arith

takes_more : (a b c : Option (List ℕ)) (done part : List ℕ) → Consumes a b done → Consumes b c part → Consumes a c (done ++ part)
takes_more None b c done part first last = tt
takes_more (Some x) None c done part first last = absurd first
takes_more (Some x) (Some y) None done part first last = absurd last
takes_more (Some x) (Some y) (Some z) done part first last = first ∙ ap (λ l. done ++ l) last ∙ sym (append_assoc done part z)

none_more : (P : ℕ → Type 0) (xs ys : List ℕ) → All P xs → All P ys → All P (xs ++ ys)
none_more P xs ys first others = All-append P xs ys first others

pub reads_more : (a b c : Option (List ℕ)) (done part line : List ℕ) → line ≡ done ++ part → Consumes a b done → All (λ x. x ≢ 10) done → Consumes b c part
    → EndsPart false part b c → 16777219 ≤ length line → IfSome a (λ xs. ReadsLine xs true line c)
reads_more a b c done part line joined first none last more long =
    reads_long a c line (subst (Consumes a c) (sym joined) (takes_more a b c done part first last))
    (subst (All (λ x. x ≢ 10)) (sym joined) (none_more (λ x. x ≢ 10) done part none more)) long

-- ---- no LF is within a line

stops_behind : (b : ℕ) (bytes : List ℕ) → b ≢ 10 → StopsAt bytes 10 → StopsAt (b ∷ bytes) 10
stops_behind b [] is stop = All-nil (λ x. x ≢ 10)
stops_behind b (next ∷ bytes) is stop =
    let one : length (next ∷ bytes) - 1 ≡ length bytes = omega arith in
    let two : length (b ∷ next ∷ bytes) - 1 ≡ suc (length bytes) = omega arith in
    let here : All (λ x. x ≢ 10) (take (length bytes) (next ∷ bytes)) = subst (λ n. All (λ x. x ≢ 10) (take n (next ∷ bytes))) one stop in
    subst (λ n. All (λ x. x ≢ 10) (take n (b ∷ next ∷ bytes))) (sym two) (All-cons (λ x. x ≢ 10) b (take (length bytes) (next ∷ bytes)) is here)

stops_joined : (done part : List ℕ) → All (λ b. b ≢ 10) done → StopsAt part 10 → StopsAt (done ++ part) 10
stops_joined [] part none stop = stop
stops_joined (b ∷ done) part none stop =
    stops_behind b (done ++ part) (All-head (λ x. x ≢ 10) b done none) (stops_joined done part (All-tail (λ x. x ≢ 10) b done none) stop)

pub stops_ended : (old new : Option (List ℕ)) (done part line : List ℕ) → line ≡ done ++ part → All (λ b. b ≢ 10) done → EndsPart true part old new
    → StopsAt line 10
stops_ended old new done part line is none ends = subst (λ z. StopsAt z 10) (sym is) (stops_joined done part none ends.0)

pub stops_long : (old new : Option (List ℕ)) (done part line : List ℕ) → line ≡ done ++ part → All (λ b. b ≢ 10) done → EndsPart false part old new
    → StopsAt line 10
stops_long old new done part line is none without =
    subst (λ z. StopsAt z 10) (sym is) (stops_joined done part none (All-take (λ x. x ≢ 10) (length part - 1) part without))
