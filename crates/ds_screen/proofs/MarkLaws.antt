-- What a list of attributes becomes, beside the cells that it stands for.
use Rattle.std.proofs.Common.{◌≡◌, ℕ, zero, suc, ◌+◌, ◌-◌, ◌%◌, ◌<◌, ◌≤◌, ◌⊎◌, ◌&&◌, ◌||◌, Bool, true, false, not, cond, eqb, ltb, leb, min, List, [], ◌∷◌, length, map, Some, None, refl, sym, ◌∙◌, ap, arith, inl, inr}
use Rattle.std.specs.Option.{option_map, unwrap_or}
use Rattle.std.proofs.Math.Nat.{mod-eq_of_lt, mod-add-mod, add-mod_left}
use Rattle.std.proofs.lemmas.Nat.{mod_below}
use Rattle.std.proofs.lemmas.Bool.{cond-true, cond-false, cases_Bool, cases_lt, cases_eq, eq-eqb, ne_eqb, eqb-true, lt-ltb, le-ltb, le-leb, lt-leb, false≢true}
use Rattle.std.proofs.lemmas.List.{get_or_past}
use Rattle.ds_codec.specs.declared.cell.Cell.{Cell}
use Rattle.ds_codec.specs.declared.cell.Cell.TheVariants.{Field, Char}
use Rattle.ds_codec.specs.Attribute.{is_protected}
use Rattle.ds_codec.specs.Character.{Glyph}
use Rattle.ds_places.specs.Places.{at_place, RisesFrom, IsWithin, is_round}
use Rattle.ds_places.specs.Nearest.{IsFirstFrom, IsLastBelow}
use Rattle.ds_screen.specs.declared.mark.Mark.{Mark}
use Rattle.ds_screen.specs.declared.records.Reset.{Reset}
use Rattle.ds_screen.specs.declared.records.Reset.TheVariants.{Every, Unprotected}
use Rattle.ds_screen.specs.Ring.{ring_on, ring_back, ring_distance, greatest}
use Rattle.ds_screen.specs.Picture.{blank, cell_at, ruled}
use Rattle.ds_screen.specs.Fields.{is_attribute, is_character, ruling_bits, ruling_after, is_open, first_open}
use Rattle.ds_screen.specs.Orders.{single_cell, text_cell, byte_cell, repeated_cell, erased_cell, nulled_cell, is_reached, first_from, is_unprotected_attribute}
use Rattle.ds_screen.specs.Reset.{after_reset}
use Rattle.ds_screen.specs.Marks.{place_of, mark_of, Marked, IsMarked, IsKept, reset_mark}
use Rattle.ds_screen.proofs.RingLaws.{distance_cases, on_cases, least_at, least_none}
use Rattle.ds_screen.proofs.RuledLaws.{length-ruled, cell_at-ruled, distance_on, on_distance, distance_lt, on_from_zero, back_to_last, back_to_here}
use Rattle.ds_screen.proofs.FieldLaws.{ruling_more}
use Rattle.ds_screen.proofs.EraseLaws.{reaches}
use Rattle.ds_screen.proofs.TabLaws.{IsFirst, first_hit, first_miss}

-- ---- a rule on both sides
pub past_blank : (cells : List Cell) (p : ℕ) → length cells ≤ p → cell_at cells p ≡ blank
past_blank cells p far = get_or_past cells p blank far

pub marked_ruled : (v w : Marked) (cells : List Cell) (rule : ℕ → Cell) → IsMarked v cells → w.size ≡ v.size → IsWithin place_of w.size w.marks
    → ((p : ℕ) → p < length cells → at_place place_of w.marks p ≡ mark_of p (rule p)) → IsMarked w (ruled (length cells) rule)
marked_ruled v w cells rule old size within each =
    record {
      sized = length-ruled (length cells) rule ∙ old.sized ∙ sym size;
      each = λ p. elim (cases_lt p (length cells)) [
        | inl lt ↦ each p lt ∙ ap (mark_of p) (sym (cell_at-ruled (length cells) rule p lt))
        | inr far ↦
            within p (omega (arith, old.sized, size))
            ∙ ap (mark_of p) (sym (past_blank (ruled (length cells) rule) p (omega (arith, length-ruled (length cells) rule))))
      ];
    }

-- ---- one cell
pub field_each : (cells : List Cell) (p q bits : ℕ)
    → cond (eqb p q) (Some (let m : Mark = record { at = p; attribute = bits } in m)) (mark_of q (cell_at cells q)) ≡ mark_of q (single_cell cells p (Field bits) q)
unfolding single_cell
field_each cells p q bits =
    elim (cases_eq p q) [
      | inl same ↦
          cond-true (eqb p q) _ _ (eq-eqb p q same)
          ∙ ap (λ z. Some (let m : Mark = record { at = z; attribute = bits } in m)) same
          ∙ ap (mark_of q) (sym (cond-true (eqb q p) (Field bits) (cell_at cells q) (eq-eqb q p (sym same))))
      | inr apart ↦
          cond-false (eqb p q) _ _ (ne_eqb p q apart)
          ∙ ap (mark_of q) (sym (cond-false (eqb q p) (Field bits) (cell_at cells q) (ne_eqb q p (λ same. apart (sym same)))))
    ]

mark_char : (t : Bool) (q : ℕ) (c : Glyph) (cell : Cell) → cond t None (mark_of q cell) ≡ mark_of q (cond t (Char c) cell)
mark_char true q c cell = refl
mark_char false q c cell = refl

pub char_each : (cells : List Cell) (p q : ℕ) (c : Glyph)
    → cond (leb p q && ltb q (p + 1)) None (mark_of q (cell_at cells q)) ≡ mark_of q (single_cell cells p (Char c) q)
unfolding single_cell
char_each cells p q c = ap (λ t. cond t None (mark_of q (cell_at cells q))) (one p q) ∙ mark_char (eqb q p) q c (cell_at cells q)
  where
    one : (p q : ℕ) → (leb p q && ltb q (p + 1)) ≡ eqb q p
    one p q =
        elim (cases_lt q p) [
          | inl less ↦ ap (λ t. t && ltb q (p + 1)) (lt-leb p q less) ∙ sym (ne_eqb q p (λ same. omega (arith, same)))
          | inr from ↦
              ap (λ t. t && ltb q (p + 1)) (le-leb p q from)
              ∙ (elim (cases_eq q p) [
                | inl same ↦ lt-ltb q (p + 1) (omega arith) ∙ sym (eq-eqb q p same)
                | inr apart ↦ le-ltb q (p + 1) (omega arith) ∙ sym (ne_eqb q p apart)
              ])
        ]

-- ---- round the ring
or_left_false : (x y : Bool) → y ≡ false → (x || y) ≡ x
or_left_false true y e = refl
or_left_false false y e = e

pub round_distance : (n b k q : ℕ) → b < n → q < n → k ≤ n → is_round n b k q ≡ ltb (ring_distance n b q) k
round_distance n b k q inside lt most =
    elim (distance_cases n b q) [
      | inl ahead ↦
          or_left_false (leb b q && ltb q (b + k)) (ltb (q + n) (b + k)) (le-ltb _ _ (omega arith))
          ∙ ap (λ t. t && ltb q (b + k)) (le-leb b q ahead.0)
          ∙ (elim (cases_lt q (b + k)) [
            | inl near ↦ lt-ltb _ _ near ∙ sym (lt-ltb _ _ (omega (arith, ahead.1, ahead.0)))
            | inr far ↦ le-ltb _ _ far ∙ sym (le-ltb _ _ (omega (arith, ahead.1, ahead.0)))
          ])
      | inr round ↦
          ap (λ t. (t && ltb q (b + k)) || ltb (q + n) (b + k)) (lt-leb b q round.0)
          ∙ (elim (cases_lt (q + n) (b + k)) [
            | inl near ↦ lt-ltb _ _ near ∙ sym (lt-ltb _ _ (omega (arith, round.1, round.0)))
            | inr far ↦ le-ltb _ _ far ∙ sym (le-ltb _ _ (omega (arith, round.1, round.0)))
          ])
    ]

pub repeat_each : (cells : List Cell) (b stop steps q : ℕ) (c : Glyph) → b < length cells → q < length cells → steps ≤ length cells
    → steps ≡ cond (eqb b stop) (length cells) (ring_distance (length cells) b stop)
    → cond (is_round (length cells) b steps q) None (mark_of q (cell_at cells q)) ≡ mark_of q (repeated_cell cells b stop c q)
unfolding repeated_cell
repeat_each cells b stop steps q c inside lt most is =
    ap (λ t. cond t None (mark_of q (cell_at cells q)))
    (round_distance (length cells) b steps q inside lt most ∙ reaches (length cells) b stop q steps inside lt is)
    ∙ mark_char (is_reached (length cells) b stop q) q c (cell_at cells q)

-- ---- text
pub greatest_cases : (k : ℕ) (test : ℕ → Bool) → ((i : ℕ) × (i < k) × (test i ≡ true) × (greatest k test ≡ Some i)) ⊎ (((i : ℕ) → i < k → test i ≡ false) × (greatest k test ≡ None))
unfolding greatest
greatest_cases zero test = inr (λ i below. absurd (omega arith), refl)
greatest_cases (suc k) test =
    elim (cases_Bool (test k)) [
      | inl hit ↦ inl (k, omega arith, hit, cond-true (test k) _ _ hit)
      | inr miss ↦ elim (greatest_cases k test) [
        | inl found ↦ inl (found.0, omega (arith, found.1), found.2, cond-false (test k) _ _ miss ∙ found.3)
        | inr none ↦ inr (
          λ i below. elim (cases_eq i k) [
            | inl same ↦ ap test same ∙ miss
            | inr apart ↦ none.0 i (omega arith)
          ],
          cond-false (test k) _ _ miss ∙ none.1,
        )
      ]
    ]

pub on_mod : (n b i : ℕ) → b < n → i < n → (b + i) % n ≡ ring_on n b i
on_mod n b i inside lt =
    elim (on_cases n b i) [
      | inl a ↦ mod-eq_of_lt a.0 ∙ sym a.1
      | inr a ↦
          let there : b + i ≡ n + (b + i - n) = omega (arith, a.0) in
          let small : b + i - n < n = omega arith in
          ap (λ x. x % n) there ∙ add-mod_left n (b + i - n) ∙ mod-eq_of_lt small ∙ sym a.1
    ]

pub text_each : (cells : List Cell) (b : ℕ) (run : List ℕ) (steps q : ℕ) → b < length cells → q < length cells → steps ≤ length cells → steps ≤ length run
    → (steps ≡ length run) ⊎ (steps ≡ length cells)
    → cond (is_round (length cells) b steps q) None (mark_of q (cell_at cells q)) ≡ mark_of q (text_cell cells b run q)
unfolding text_cell
text_each cells b run steps q inside lt most within is =
    let n : ℕ = length cells in
    let test : ℕ → Bool = λ i. eqb ((b + i) % n) q in
    let d : ℕ = ring_distance n b q in
    let there : (b + d) % n ≡ q = on_mod n b d inside (distance_lt n b q inside lt) ∙ on_distance n b q inside lt in
    ap (λ t. cond t None (mark_of q (cell_at cells q))) (round_distance n b steps q inside lt most)
    ∙ (elim (greatest_cases (length run) test) [
      | inl found ↦
          let near : d < steps = elim is [
            | inl all ↦ near_of n b q found.0 inside lt (eqb-true _ _ found.2) (length run) steps found.1 all
            | inr round ↦ omega (arith, distance_lt n b q inside lt, round)
          ] in
          cond-true (ltb d steps) _ _ (lt-ltb _ _ near) ∙ ap (λ o. mark_of q (byte_cell cells run q o)) (sym found.3)
      | inr none ↦
          elim (cases_lt d steps) [
            | inl near ↦ absurd (false≢true (sym (none.0 d (omega arith)) ∙ eq-eqb _ _ there))
            | inr far ↦ cond-false (ltb d steps) _ _ (le-ltb _ _ far) ∙ ap (λ o. mark_of q (byte_cell cells run q o)) (sym none.1)
          ]
    ])
  where
    -- a byte that falls on q stands no nearer than q does
    near_of : (n b q i : ℕ) → b < n → q < n → (b + i) % n ≡ q → (len steps : ℕ) → i < len → steps ≡ len → ring_distance n b q < steps
    near_of n b q i inside lt falls len steps below all =
        elim (cases_lt i n) [
          | inl small ↦
              let same : ring_distance n b q ≡ i = ap (ring_distance n b) (sym (sym (on_mod n b i inside small) ∙ falls)) ∙ distance_on n b i inside small in
              omega (arith, same)
          | inr large ↦ let few = distance_lt n b q inside lt in omega (arith, few)
        ]

-- ---- erasing leaves attributes
pub erase_each : (cells : List Cell) (b stop q : ℕ) → mark_of q (cell_at cells q) ≡ mark_of q (erased_cell cells b stop q)
unfolding erased_cell
erase_each cells b stop q = spares (is_reached (length cells) b stop q) q (cell_at cells q) (is_open cells q) (open_character cells q)
  where
    open_character : (cells : List Cell) (q : ℕ) → is_open cells q ≡ true → is_attribute (cell_at cells q) ≡ false
    open_character cells q opens = shut (is_attribute (cell_at cells q)) _ opens
      where
        shut : (t u : Bool) → (not t && u) ≡ true → t ≡ false
        shut true u e = absurd cc
        shut false u e = refl

    spares : (r : Bool) (q : ℕ) (cell : Cell) (o : Bool) → (o ≡ true → is_attribute cell ≡ false) → mark_of q cell ≡ mark_of q (cond (r && o) blank cell)
    spares false q cell o h = refl
    spares true q cell false h = refl
    spares true q (Char c) true h = refl
    spares true q (Field bits) true h = absurd (let e = h refl in cc)

-- ---- what is held, and what stands there
pub held_there : (v : Marked) (cells : List Cell) (q : ℕ) (mark : Mark) → IsMarked v cells → at_place place_of v.marks q ≡ Some mark
    → (cell_at cells q ≡ Field mark.attribute) × (mark.at ≡ q) × (q < length cells)
held_there v cells q mark marked held =
    let is : mark_of q (cell_at cells q) ≡ Some mark = sym (marked.each q) ∙ held in
    let parts = parts_of q (cell_at cells q) mark is in (
      parts.0,
      parts.1,
      elim (cases_lt q (length cells)) [
        | inl lt ↦ lt
        | inr far ↦ let e = sym (ap (mark_of q) (past_blank cells q far)) ∙ is in absurd cc
      ],
    )
  where
    parts_of : (q : ℕ) (cell : Cell) (mark : Mark) → mark_of q cell ≡ Some mark → (cell ≡ Field mark.attribute) × (mark.at ≡ q)
    parts_of q (Field bits) mark is = let e : ◌≡◌ {A = Mark} (record { at = q; attribute = bits }) mark = some_same _ _ is in (ap (λ m. Field m.attribute) e, ap (λ m. m.at) (sym e))
      where
        some_same : (a b : Mark) → Some a ≡ Some b → a ≡ b
        some_same a b e = cc
    parts_of q (Char c) mark is = absurd cc

pub none_there : (v : Marked) (cells : List Cell) (q : ℕ) → IsMarked v cells → at_place place_of v.marks q ≡ None → is_attribute (cell_at cells q) ≡ false
none_there v cells q marked none = no_mark q (cell_at cells q) (sym (marked.each q) ∙ none)
  where
    no_mark : (q : ℕ) (cell : Cell) → mark_of q cell ≡ None → is_attribute cell ≡ false
    no_mark q (Field bits) e = absurd cc
    no_mark q (Char c) e = refl

-- ---- the first from a position on
pub first_there : (v : Marked) (cells : List Cell) (b : ℕ) (mark : Mark) → IsMarked v cells → IsFirstFrom place_of v.marks b (Some mark) → IsFirst is_attribute cells b mark.at
first_there v cells b mark marked found =
    let there = held_there v cells mark.at mark marked found.1 in
    record {
      ahead = found.0;
      inside = there.2;
      misses = λ q from below. none_there v cells q marked (found.2 q from below);
      hit = ap is_attribute there.0;
    }

pub first_never : (v : Marked) (cells : List Cell) (b : ℕ) → IsMarked v cells → IsFirstFrom place_of v.marks b None
    → (q : ℕ) → b ≤ q → q < length cells → is_attribute (cell_at cells q) ≡ false
first_never v cells b marked found q from lt = none_there v cells q marked (found q from)

nulled_char : (cells : List Cell) (b stop q : ℕ) → (b ≤ q → q < stop → is_attribute (cell_at cells q) ≡ false) → mark_of q (cell_at cells q) ≡ mark_of q (nulled_cell cells b stop q)
unfolding nulled_cell
nulled_char cells b stop q h =
    elim (cases_lt q b) [
      | inl less ↦ ap (λ t. mark_of q (cond (t && ltb q stop) blank (cell_at cells q))) (sym (lt-leb b q less))
      | inr from ↦ elim (cases_lt q stop) [
        | inl below ↦
            no_mark q (cell_at cells q) (h from below)
            ∙ ap (λ t. mark_of q (cond (t && ltb q stop) blank (cell_at cells q))) (sym (le-leb b q from))
        | inr past ↦
            sym (ap (λ t. mark_of q (cond (t && ltb q stop) blank (cell_at cells q))) (le-leb b q from)
            ∙ ap (λ t. mark_of q (cond t blank (cell_at cells q))) (le-ltb q stop past))
      ]
    ]
  where
    no_mark : (q : ℕ) (cell : Cell) → is_attribute cell ≡ false → mark_of q cell ≡ mark_of q (cond (ltb q stop) blank cell)
    no_mark q (Field bits) e = absurd cc
    no_mark q (Char c) e = both (ltb q stop)
      where
        both : (t : Bool) → None ≡ mark_of q (cond t blank (Char c))
        both true = refl
        both false = refl

pub null_each : (cells : List Cell) (b stop q : ℕ) → ((p : ℕ) → b ≤ p → p < stop → is_attribute (cell_at cells p) ≡ false) → mark_of q (cell_at cells q) ≡ mark_of q (nulled_cell cells b stop q)
null_each cells b stop q misses = nulled_char cells b stop q (misses q)

-- ---- reset
pub reset_at : (which : Reset) (xs : List Mark) (q : ℕ) → at_place place_of (map (reset_mark which) xs) q ≡ option_map (reset_mark which) (at_place place_of xs q)
reset_at which [] q = refl
reset_at which (x ∷ xs) q =
    elim (cases_Bool (eqb x.at q)) [
      | inl same ↦ cond-true (eqb x.at q) _ _ same ∙ ap (option_map (reset_mark which)) (sym (cond-true (eqb x.at q) (Some x) (at_place place_of xs q) same))
      | inr apart ↦ cond-false (eqb x.at q) _ _ apart ∙ reset_at which xs q ∙ ap (option_map (reset_mark which)) (sym (cond-false (eqb x.at q) (Some x) (at_place place_of xs q) apart))
    ]

pub reset_rises : (which : Reset) (low : ℕ) (xs : List Mark) → RisesFrom place_of low xs → RisesFrom place_of low (map (reset_mark which) xs)
reset_rises which low [] h = tt
reset_rises which low (x ∷ xs) h = (h.0, reset_rises which (x.at + 1) xs h.1)

pub reset_within : (which : Reset) (n : ℕ) (xs : List Mark) → IsWithin place_of n xs → IsWithin place_of n (map (reset_mark which) xs)
reset_within which n xs within q far = reset_at which xs q ∙ ap (option_map (reset_mark which)) (within q far)

pub reset_each : (which : Reset) (xs : List Mark) (cells : List Cell) (q : ℕ) → at_place place_of xs q ≡ mark_of q (cell_at cells q)
    → at_place place_of (map (reset_mark which) xs) q ≡ mark_of q (after_reset which (cell_at cells q))
reset_each which xs cells q is = reset_at which xs q ∙ ap (option_map (reset_mark which)) is ∙ told which q (cell_at cells q)
  where
    told : (which : Reset) (q : ℕ) (cell : Cell) → option_map (reset_mark which) (mark_of q cell) ≡ mark_of q (after_reset which cell)
    told Every q (Field bits) = refl
    told Every q (Char c) = refl
    told Unprotected q (Field bits) = refl
    told Unprotected q (Char c) = refl

-- ---- whole methods, over the list that a function works on
pub text_marked : (v w : Marked) (cells : List Cell) (b steps : ℕ) (run : List ℕ) → IsMarked v cells → w.size ≡ v.size → IsWithin place_of w.size w.marks
    → b < v.size → steps ≡ min (length run) v.size
    → ((q : ℕ) → at_place place_of w.marks q ≡ cond (is_round v.size b steps q) None (at_place place_of v.marks q))
    → IsMarked w (ruled (length cells) (text_cell cells b run))
text_marked v w cells b steps run old size within inside is cut =
    marked_ruled v w cells (text_cell cells b run) old size within
    (λ p lt. cut p ∙ ap (λ n. cond (is_round n b steps p) None (at_place place_of v.marks p)) (sym old.sized)
    ∙ ap (cond (is_round (length cells) b steps p) None) (old.each p)
    ∙ text_each cells b run steps p (omega (arith, old.sized)) lt (omega (arith, old.sized)) (omega arith)
    (elim (cases_lt (length run) v.size) [ inl less ↦ inl (omega arith) | inr more ↦ inr (omega (arith, old.sized)) ]))

pub repeat_marked : (v w : Marked) (cells : List Cell) (b stop steps : ℕ) (c : Glyph) → IsMarked v cells → w.size ≡ v.size → IsWithin place_of w.size w.marks
    → b < v.size → steps ≤ v.size → steps ≡ cond (eqb b stop) v.size (ring_distance v.size b stop)
    → ((q : ℕ) → at_place place_of w.marks q ≡ cond (is_round v.size b steps q) None (at_place place_of v.marks q))
    → IsMarked w (ruled (length cells) (repeated_cell cells b stop c))
repeat_marked v w cells b stop steps c old size within inside most is cut =
    marked_ruled v w cells (repeated_cell cells b stop c) old size within
    (λ p lt. cut p ∙ ap (λ n. cond (is_round n b steps p) None (at_place place_of v.marks p)) (sym old.sized)
    ∙ ap (cond (is_round (length cells) b steps p) None) (old.each p)
    ∙ repeat_each cells b stop steps p c (omega (arith, old.sized)) lt (omega (arith, old.sized))
    (is ∙ ap (λ n. cond (eqb b stop) n (ring_distance n b stop)) (sym old.sized)))

pub field_marked : (v w : Marked) (cells : List Cell) (p bits : ℕ) → IsMarked v cells → w.size ≡ v.size → IsWithin place_of w.size w.marks
    → ((q : ℕ) → at_place place_of w.marks q ≡ cond (eqb p q) (Some (let m : Mark = record { at = p; attribute = bits } in m)) (at_place place_of v.marks q))
    → IsMarked w (ruled (length cells) (single_cell cells p (Field bits)))
field_marked v w cells p bits old size within stored =
    marked_ruled v w cells (single_cell cells p (Field bits)) old size within
    (λ q lt. stored q ∙ ap (cond (eqb p q) (Some (let m : Mark = record { at = p; attribute = bits } in m))) (old.each q) ∙ field_each cells p q bits)

pub char_marked : (v w : Marked) (cells : List Cell) (p : ℕ) (c : Glyph) → IsMarked v cells → w.size ≡ v.size → IsWithin place_of w.size w.marks
    → ((q : ℕ) → at_place place_of w.marks q ≡ cond (leb p q && ltb q (p + 1)) None (at_place place_of v.marks q))
    → IsMarked w (ruled (length cells) (single_cell cells p (Char c)))
char_marked v w cells p c old size within cut =
    marked_ruled v w cells (single_cell cells p (Char c)) old size within
    (λ q lt. cut q ∙ ap (cond (leb p q && ltb q (p + 1)) None) (old.each q) ∙ char_each cells p q c)

pub within_of : (v : Marked) (cells : List Cell) → IsMarked v cells → IsWithin place_of v.size v.marks
within_of v cells old q far = old.each q ∙ ap (mark_of q) (past_blank cells q (omega (arith, old.sized)))

pub erase_marked : (v : Marked) (cells : List Cell) (b stop : ℕ) → IsMarked v cells → IsMarked v (ruled (length cells) (erased_cell cells b stop))
erase_marked v cells b stop old =
    marked_ruled v v cells (erased_cell cells b stop) old refl (within_of v cells old) (λ q lt. old.each q ∙ erase_each cells b stop q)

pub null_marked : (v : Marked) (cells : List Cell) (b stop : ℕ) → IsMarked v cells
    → ((p : ℕ) → b ≤ p → p < stop → is_attribute (cell_at cells p) ≡ false) → IsMarked v (ruled (length cells) (nulled_cell cells b stop))
null_marked v cells b stop old misses =
    marked_ruled v v cells (nulled_cell cells b stop) old refl (within_of v cells old) (λ q lt. old.each q ∙ null_each cells b stop q misses)

pub reset_marked : (which : Reset) (v w : Marked) (cells : List Cell) → IsMarked v cells → w.size ≡ v.size → IsWithin place_of w.size w.marks
    → w.marks ≡ map (reset_mark which) v.marks → IsMarked w (ruled (length cells) (λ p. after_reset which (cell_at cells p)))
reset_marked which v w cells old size within is =
    marked_ruled v w cells (λ p. after_reset which (cell_at cells p)) old size within
    (λ p lt. ap (λ l. at_place place_of l p) is ∙ reset_each which v.marks cells p (old.each p))

-- ---- the position after text
pub after_text : (n b k : ℕ) → b < n → ring_on n b (k % n) ≡ (b + k) % n
after_text n b k inside =
    sym (on_mod n b (k % n) inside (mod_below k n (omega arith)))
    ∙ ap (λ x. x % n) (omega arith) ∙ mod-add-mod k n b ∙ ap (λ x. x % n) (omega arith)

-- ---- the first attribute that doesn't protect
pub not_unprotected : (c : Cell) → is_attribute c ≡ false → is_unprotected_attribute c ≡ false
not_unprotected (Field bits) none = absurd cc
not_unprotected (Char c) none = refl

pub held_inside : (v : Marked) (q : ℕ) (mark : Mark) → IsKept v → at_place place_of v.marks q ≡ Some mark → q < v.size
held_inside v q mark kept held =
    elim (cases_lt q v.size) [
      | inl lt ↦ lt
      | inr far ↦ let e = sym (kept.inside q far) ∙ held in absurd cc
    ]

-- no position from the first up to this one holds an unprotected attribute
abbrev pub NoneFree : List Cell → ℕ → ℕ → Type 0
NoneFree cells from at = (q : ℕ) → from ≤ q → q < at → is_unprotected_attribute (cell_at cells q) ≡ false

pub free_found : (v : Marked) (cells : List Cell) (from at : ℕ) (mark : Mark) → IsMarked v cells → from ≤ at → IsFirstFrom place_of v.marks at (Some mark)
    → not (is_protected mark.attribute) ≡ true → NoneFree cells from at → first_from is_unprotected_attribute cells from ≡ Some mark.at
free_found v cells from at mark marked order found opens misses =
    let there = held_there v cells mark.at mark marked found.1 in
    first_hit is_unprotected_attribute cells from mark.at
    (record {
      ahead = omega (arith, found.0);
      inside = there.2;
      misses = λ q low below. elim (cases_lt q at) [
        | inl early ↦ misses q low early
        | inr late ↦ not_unprotected (cell_at cells q) (none_there v cells q marked (found.2 q late below))
      ];
      hit = ap is_unprotected_attribute there.0 ∙ opens;
    })

pub free_never : (v : Marked) (cells : List Cell) (from at : ℕ) → IsMarked v cells → IsFirstFrom place_of v.marks at None
    → NoneFree cells from at → first_from is_unprotected_attribute cells from ≡ None
free_never v cells from at marked found misses =
    first_miss is_unprotected_attribute cells from
    (λ q low lt. elim (cases_lt q at) [
      | inl early ↦ misses q low early
      | inr late ↦ not_unprotected (cell_at cells q) (none_there v cells q marked (found q late))
    ])

-- ---- what rules the positions between attributes
pub keeps : (before : ℕ) (c : Cell) → is_attribute c ≡ false → ruling_after before c ≡ before
keeps before (Field bits) none = absurd cc
keeps before (Char c) none = refl

pub ruling_mark : (v : Marked) (cells : List Cell) (q : ℕ) (mark : Mark) → IsMarked v cells → at_place place_of v.marks q ≡ Some mark → ruling_bits cells q ≡ mark.attribute
ruling_mark v cells q mark marked held =
    let there = held_there v cells q mark marked held in
    ruling_more cells q there.2 ∙ ap (ruling_after (ruling_bits cells (ring_back (length cells) q 1))) there.0

-- characters are ruled by what rules the position before them
pub ruling_run : (cells : List Cell) (place d before : ℕ) → place + d < length cells → ((q : ℕ) → place ≤ q → q ≤ place + d → is_attribute (cell_at cells q) ≡ false)
    → before ≡ ruling_bits cells (ring_back (length cells) place 1) → ruling_bits cells (place + d) ≡ before
ruling_run cells place zero before inside misses ruled =
    let here : place + 0 ≡ place = omega arith in
    ap (ruling_bits cells) here ∙ ruling_more cells place (omega arith) ∙ ap (λ r. ruling_after r (cell_at cells place)) (sym ruled)
    ∙ keeps before (cell_at cells place) (misses place (omega arith) (omega arith))
ruling_run cells place (suc d) before inside misses ruled =
    let more : place + suc d ≡ place + d + 1 = omega arith in
    let less : ruling_bits cells (place + d) ≡ before = ruling_run cells place d before (omega arith) (λ q from to. misses q from (omega arith)) ruled in
    ap (ruling_bits cells) more ∙ ruling_more cells (place + d + 1) (omega arith)
    ∙ ap (λ p. ruling_after (ruling_bits cells p) (cell_at cells (place + d + 1))) (back_to_here (length cells) (place + d))
    ∙ ap (λ r. ruling_after r (cell_at cells (place + d + 1))) less
    ∙ keeps before (cell_at cells (place + d + 1)) (misses (place + d + 1) (omega arith) (omega arith))

pub last_rules : (v : Marked) (cells : List Cell) (mark : Mark) → IsMarked v cells → IsLastBelow place_of v.marks v.size (Some mark)
    → mark.attribute ≡ ruling_bits cells (ring_back (length cells) 0 1)
last_rules v cells mark marked found =
    let n : ℕ = length cells in
    let there = held_there v cells mark.at mark marked found.1 in
    let last : ring_back n 0 1 ≡ n - 1 = back_to_last n n (n - 1) (omega (arith, there.2)) refl refl in
    let own : mark.attribute ≡ ruling_bits cells mark.at = sym (ruling_mark v cells mark.at mark marked found.1) in
    sym (ap (ruling_bits cells) last
    ∙ (elim (cases_lt (mark.at + 1) n) [
      | inl early ↦
          let end : n - 1 ≡ mark.at + 1 + (n - 1 - (mark.at + 1)) = omega arith in
          ap (ruling_bits cells) end
          ∙ ruling_run cells (mark.at + 1) (n - 1 - (mark.at + 1)) mark.attribute (omega arith)
          (λ q from to. none_there v cells q marked (found.2 q (omega arith) (omega (arith, marked.sized))))
          (own ∙ ap (ruling_bits cells) (sym (back_to_here n mark.at)))
      | inr late ↦
          let end : n - 1 ≡ mark.at = omega (arith, there.2) in
          ap (ruling_bits cells) end ∙ sym own
    ]))

-- ---- the least open position
abbrev pub NoneOpen : List Cell → ℕ → Type 0
NoneOpen cells place = (q : ℕ) → q < place → is_open cells q ≡ false

pub open_shut : (cells : List Cell) (q before : ℕ) → ruling_bits cells q ≡ before → is_protected before ≡ true → is_open cells q ≡ false
open_shut cells q before ruled shut = ap (λ r. is_character (cell_at cells q) && not (is_protected r)) ruled ∙ ap (λ t. is_character (cell_at cells q) && not t) shut ∙ none (is_character (cell_at cells q))
  where
    none : (t : Bool) → (t && false) ≡ false
    none true = refl
    none false = refl

pub open_free : (cells : List Cell) (q before : ℕ) → ruling_bits cells q ≡ before → is_attribute (cell_at cells q) ≡ false → is_protected before ≡ false → is_open cells q ≡ true
open_free cells q before ruled none free = ap (λ t. not t && not (is_protected (ruling_bits cells q))) none ∙ ap (λ r. not (is_protected r)) ruled ∙ ap not free

open_mark : (cells : List Cell) (q bits : ℕ) → cell_at cells q ≡ Field bits → is_open cells q ≡ false
open_mark cells q bits is = ap (λ c. is_character c && not (is_protected (ruling_bits cells q))) is

-- the stretch before an attribute holds nothing open, where it is protected or empty
pub open_more : (v : Marked) (cells : List Cell) (place before : ℕ) (mark : Mark) → IsMarked v cells → IsFirstFrom place_of v.marks place (Some mark)
    → before ≡ ruling_bits cells (ring_back (length cells) place 1) → (place < mark.at → is_protected before ≡ true) → NoneOpen cells place → NoneOpen cells (mark.at + 1)
open_more v cells place before mark marked found ruled shut misses q below =
    let there = held_there v cells mark.at mark marked found.1 in
    elim (cases_lt q place) [
      | inl early ↦ misses q early
      | inr late ↦ elim (cases_eq q mark.at) [
        | inl same ↦ ap (is_open cells) same ∙ open_mark cells mark.at mark.attribute there.0
        | inr apart ↦
            let is : q ≡ place + (q - place) = omega arith in
            open_shut cells q before
            (ap (ruling_bits cells) is
            ∙ ruling_run cells place (q - place) before (omega (arith, there.2)) (λ r from to. none_there v cells r marked (found.2 r from (omega arith))) ruled)
            (shut (omega arith))
      ]
    ]

least_open : (cells : List Cell) (k : ℕ) → k < length cells → NoneOpen cells k → is_open cells k ≡ true → k ≡ first_open cells 0
unfolding first_open
least_open cells k lt misses hit =
    let n : ℕ = length cells in
    let on : (d : ℕ) → d < n → ring_on n 0 d ≡ d = λ d few. sym (on_from_zero n d few) in
    sym (ap (λ o. unwrap_or (option_map (ring_on n 0) o) 0)
    (least_at n k (λ d. is_open cells (ring_on n 0 d)) lt (λ d below. ap (is_open cells) (on d (omega arith)) ∙ misses d below) (ap (is_open cells) (on k lt) ∙ hit))
    ∙ on k lt)

never_open : (cells : List Cell) → NoneOpen cells (length cells) → 0 ≡ first_open cells 0
unfolding first_open
never_open cells misses =
    let n : ℕ = length cells in
    sym (ap (λ o. unwrap_or (option_map (ring_on n 0) o) 0)
    (least_none n (λ d. is_open cells (ring_on n 0 d)) (λ d few. ap (is_open cells) (sym (on_from_zero n d few)) ∙ misses d few)))

pub open_before : (v : Marked) (cells : List Cell) (place before : ℕ) (mark : Mark) → IsMarked v cells → IsFirstFrom place_of v.marks place (Some mark)
    → before ≡ ruling_bits cells (ring_back (length cells) place 1) → place < mark.at → is_protected before ≡ false → NoneOpen cells place → place ≡ first_open cells 0
open_before v cells place before mark marked found ruled lt free misses =
    let there = held_there v cells mark.at mark marked found.1 in
    let here : is_attribute (cell_at cells place) ≡ false = none_there v cells place marked (found.2 place (omega arith) lt) in
    let zero_on : place ≡ place + 0 = omega arith in
    least_open cells place (omega (arith, there.2)) misses
    (open_free cells place before
    (ap (ruling_bits cells) zero_on ∙ ruling_run cells place 0 before (omega (arith, there.2)) (λ r from to. none_there v cells r marked (found.2 r from (omega arith))) ruled) here free)

pub open_after : (v : Marked) (cells : List Cell) (place before : ℕ) → IsMarked v cells → IsFirstFrom place_of v.marks place None
    → before ≡ ruling_bits cells (ring_back (length cells) place 1) → place < v.size → is_protected before ≡ false → NoneOpen cells place → place ≡ first_open cells 0
open_after v cells place before marked found ruled lt free misses =
    let here : is_attribute (cell_at cells place) ≡ false = none_there v cells place marked (found place (omega arith)) in
    let zero_on : place ≡ place + 0 = omega arith in
    least_open cells place (omega (arith, marked.sized)) misses
    (open_free cells place before
    (ap (ruling_bits cells) zero_on ∙ ruling_run cells place 0 before (omega (arith, marked.sized)) (λ r from to. none_there v cells r marked (found r from)) ruled) here free)

pub open_never : (v : Marked) (cells : List Cell) (place before : ℕ) → IsMarked v cells → IsFirstFrom place_of v.marks place None
    → before ≡ ruling_bits cells (ring_back (length cells) place 1) → (place < v.size → is_protected before ≡ true) → NoneOpen cells place → 0 ≡ first_open cells 0
open_never v cells place before marked found ruled shut misses =
    never_open cells
    (λ q lt. elim (cases_lt q place) [
      | inl early ↦ misses q early
      | inr late ↦
          let is : q ≡ place + (q - place) = omega arith in
          open_shut cells q before
          (ap (ruling_bits cells) is
          ∙ ruling_run cells place (q - place) before (omega arith) (λ r from to. none_there v cells r marked (found r from)) ruled)
          (shut (omega (arith, marked.sized)))
    ])
