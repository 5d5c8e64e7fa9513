-- What is done to the cells of planes, and to the index of their attributes.
use Rattle.std.proofs.Common.{◌≡◌, ℕ, zero, suc, ◌+◌, ◌-◌, ◌%◌, ◌<◌, ◌≤◌, ◌&&◌, ◌||◌, Bool, true, false, cond, eqb, leb, ltb, List, length, get_or, set, Option, Some, None, refl, sym, ◌∙◌, ap, arith, inl, inr, get_or-set_same, get_or-set_other}
use Rattle.std.specs.Option.{unwrap_or}
use Rattle.std.proofs.Math.Nat.{mod-add-mod, mod-eq_of_lt, mod_self}
use Rattle.std.proofs.lemmas.Bool.{cond-true, cond-false, cases_lt, cases_eq, eq-eqb, ne_eqb, lt-ltb, le-ltb, le-leb, lt-leb}
use Rattle.ds_codec.specs.declared.cell.Cell.{Cell}
use Rattle.ds_codec.specs.declared.cell.Cell.TheVariants.{Field, Char}
use Rattle.ds_codec.specs.Character.{Glyph, glyph, null}
use Rattle.ds_places.specs.Places.{is_round}
use Rattle.ds_places.specs.Nearest.{IsFirstFrom}
use Rattle.ds_screen.specs.declared.records.Reset.{Reset}
use Rattle.ds_screen.specs.declared.records.Reset.TheVariants.{Every, Unprotected}
use Rattle.ds_screen.specs.Ring.{ring_distance, greatest}
use Rattle.ds_screen.specs.Picture.{blank, cell_at, ruled}
use Rattle.ds_screen.specs.Fields.{is_attribute}
use Rattle.ds_screen.specs.Orders.{byte_cell, repeated_cell, nulled_cell, is_reached, first_from}
use Rattle.ds_screen.specs.Reset.{after_reset}
use Rattle.ds_screen.specs.Planes.{filled_cell, written_cell, itself, IsIndex}
use Rattle.ds_screen.proofs.RuledLaws.{length-ruled, cell_at-ruled, ruled_same, as_ruled}
use Rattle.ds_screen.proofs.TabLaws.{first_hit, first_miss}
use Rattle.ds_screen.proofs.EraseLaws.{reaches}
use Rattle.ds_screen.proofs.MarkLaws.{round_distance}
use Rattle.ds_screen.proofs.RunLaws.{run_cell, greatest_hit, greatest_miss}
use Rattle.ds_screen.proofs.PlaneLaws.{both_ends}
use Rattle.ds_screen.proofs.HalvingLaws.{held_attribute, none_held}

-- ---- a character in so many positions
round_reached : (n b stop steps q : ℕ) → b < n → q < n → steps ≤ n → steps ≡ cond (eqb b stop) n (ring_distance n b stop) → is_round n b steps q ≡ is_reached n b stop q
round_reached n b stop steps q inside lt most is = round_distance n b steps q inside lt most ∙ reaches n b stop q steps inside lt is

pub repeat_cells : (cells : List Cell) (n b stop steps : ℕ) (c : Glyph) → n ≡ length cells → b < n → steps ≤ n → steps ≡ cond (eqb b stop) n (ring_distance n b stop)
    → ruled n (λ p. cond (is_round n b steps p) (Char c) (cell_at cells p)) ≡ ruled (length cells) (repeated_cell cells b stop c)
unfolding repeated_cell
repeat_cells cells n b stop steps c len inside most is =
    ap (λ m. ruled m (λ p. cond (is_round n b steps p) (Char c) (cell_at cells p))) len
    ∙ ruled_same (length cells) _ _
    (λ p lt. ap (λ t. cond t (Char c) (cell_at cells p))
    (round_reached n b stop steps p inside (omega arith) most is ∙ ap (λ m. is_reached m b stop p) len))

-- ---- nulls up to an attribute
pub null_place : (index : List ℕ) (cells : List Cell) (n b : ℕ) (o : Option ℕ) → IsIndex index cells → n ≡ length cells → IsFirstFrom itself index b o
    → (unwrap_or o n ≡ unwrap_or (first_from is_attribute cells b) (length cells))
    × ((p : ℕ) → b ≤ p → p < unwrap_or o n → is_attribute (cell_at cells p) ≡ false)
null_place index cells n b None listed len found = (
  len ∙ sym (ap (λ o. unwrap_or o (length cells)) (first_miss is_attribute cells b (λ q from lt. none_held index cells q listed (found q from)))),
  λ p from below. none_held index cells p listed (found p from),
)
null_place index cells n b (Some q) listed len found =
    let there = held_attribute index cells q q listed found.1 in (
      sym (ap (λ o. unwrap_or o (length cells)) (first_hit is_attribute cells b q
          (record { ahead = found.0; inside = there.2; misses = λ r from below. none_held index cells r listed (found.2 r from below); hit = there.0 }))),
      λ p from below. none_held index cells p listed (found.2 p from below),
    )

pub null_cells : (cells : List Cell) (b stop : ℕ) → ruled (length cells) (filled_cell cells b stop null) ≡ ruled (length cells) (nulled_cell cells b stop)
unfolding nulled_cell
null_cells cells b stop = refl

-- ---- the tags of the attributes that are listed
-- the cells of the places below a bound are reset
abbrev pub reset_below : Reset → List Cell → ℕ → ℕ → Cell
reset_below which cells low p = cond (ltb p low) (after_reset which (cell_at cells p)) (cell_at cells p)

keep_char : (which : Reset) (c : Cell) → is_attribute c ≡ false → after_reset which c ≡ c
keep_char Every (Field bits) e = absurd cc
keep_char Every (Char c) e = refl
keep_char Unprotected (Field bits) e = absurd cc
keep_char Unprotected (Char c) e = refl

pub reset_reads : (cells now : List Cell) (which : Reset) (at q : ℕ) → at ≤ q → q < length cells
    → ((p : ℕ) → p < length cells → cell_at now p ≡ reset_below which cells at p) → cell_at now q ≡ cell_at cells q
reset_reads cells now which at q from lt each = each q lt ∙ cond-false (ltb q at) _ _ (le-ltb _ _ from)

pub reset_more : (index : List ℕ) (cells now : List Cell) (which : Reset) (at q : ℕ) (cell : Cell) → IsIndex index cells → IsFirstFrom itself index at (Some q)
    → length now ≡ length cells → cell ≡ after_reset which (cell_at cells q) → ((p : ℕ) → p < length cells → cell_at now p ≡ reset_below which cells at p)
    → (p : ℕ) → p < length cells → cell_at (set now q cell) p ≡ reset_below which cells (q + 1) p
reset_more index cells now which at q cell listed found len is each p below =
    elim (cases_eq p q) [
      | inl same ↦
          ap (λ k. get_or (set now q cell) k blank) same ∙ get_or-set_same now q cell blank (omega (arith, below, same, len)) ∙ is
          ∙ ap (λ k. after_reset which (cell_at cells k)) (sym same)
          ∙ sym (cond-true (ltb p (q + 1)) _ _ (lt-ltb _ _ (omega (arith, same))))
      | inr apart ↦
          get_or-set_other now q p cell blank apart ∙ each p below
          ∙ (elim (cases_lt p at) [
            | inl early ↦
                cond-true (ltb p at) _ _ (lt-ltb _ _ early) ∙ sym (cond-true (ltb p (q + 1)) _ _ (lt-ltb _ _ (omega (arith, found.0, early))))
            | inr late ↦ elim (cases_lt p q) [
              | inl less ↦
                  cond-false (ltb p at) _ _ (le-ltb _ _ late)
                  ∙ sym (keep_char which (cell_at cells p) (none_held index cells p listed (found.2 p late less)))
                  ∙ sym (cond-true (ltb p (q + 1)) _ _ (lt-ltb _ _ (omega (arith, less))))
              | inr more ↦
                  cond-false (ltb p at) _ _ (le-ltb _ _ late) ∙ sym (cond-false (ltb p (q + 1)) _ _ (le-ltb _ _ (omega (arith, more, apart))))
            ]
          ])
    ]

pub reset_all : (index : List ℕ) (cells now : List Cell) (which : Reset) (at : ℕ) → IsIndex index cells → IsFirstFrom itself index at None → length now ≡ length cells
    → ((p : ℕ) → p < length cells → cell_at now p ≡ reset_below which cells at p)
    → now ≡ ruled (length cells) (λ p. after_reset which (cell_at cells p))
reset_all index cells now which at listed none len each =
    as_ruled now (length cells) (λ p. after_reset which (cell_at cells p)) len
    (λ p lt. each p lt ∙ (elim (cases_lt p at) [
      | inl early ↦ cond-true (ltb p at) _ _ (lt-ltb _ _ early)
      | inr late ↦ cond-false (ltb p at) _ _ (le-ltb _ _ late) ∙ sym (keep_char which (cell_at cells p) (none_held index cells p listed (none p late)))
    ]))

-- ---- a part that runs round the end
pub round_both : (cells : List Cell) (b steps left : ℕ) (c : Glyph) → b < length cells → steps ≤ length cells → left ≡ length cells - b → left < steps
    → ruled (length (ruled (length cells) (filled_cell cells b (b + left) c))) (filled_cell (ruled (length cells) (filled_cell cells b (b + left) c)) 0 (steps - left) c)
    ≡ ruled (length cells) (λ p. cond (is_round (length cells) b steps p) (Char c) (cell_at cells p))
round_both cells b steps left c inside few is some =
    let n : ℕ = length cells in
    let first : List Cell = ruled n (filled_cell cells b (b + left) c) in
    ap (λ m. ruled m (filled_cell first 0 (steps - left) c)) (length-ruled n (filled_cell cells b (b + left) c))
    ∙ ruled_same n (filled_cell first 0 (steps - left) c) (λ p. cond (is_round n b steps p) (Char c) (cell_at cells p))
    (λ p lt.
    let begins : filled_cell first 0 (steps - left) c p ≡ cond (ltb p (steps - left)) (Char c) (cell_at first p) =
    ap (λ t. cond (t && ltb p (steps - left)) (Char c) (cell_at first p)) (le-leb 0 p (omega arith)) in
    let there : cell_at first p ≡ filled_cell cells b (b + left) c p = cell_at-ruled n (filled_cell cells b (b + left) c) p lt in
    begins ∙ ap (cond (ltb p (steps - left)) (Char c)) there
    ∙ (elim (cases_lt p b) [
      | inl less ↦
          ap (λ t. cond (ltb p (steps - left)) (Char c) (cond (t && ltb p (b + left)) (Char c) (cell_at cells p))) (lt-leb b p less)
          ∙ ap (λ t. cond t (Char c) (cell_at cells p)) (near p less)
          ∙ sym (ap (λ t. cond ((t && ltb p (b + steps)) || ltb (p + n) (b + steps)) (Char c) (cell_at cells p)) (lt-leb b p less))
      | inr more ↦
          ap (λ t. cond (ltb p (steps - left)) (Char c) (cond (t && ltb p (b + left)) (Char c) (cell_at cells p))) (le-leb b p more)
          ∙ ap (λ t. cond (ltb p (steps - left)) (Char c) (cond t (Char c) (cell_at cells p))) (lt-ltb p (b + left) (omega arith))
          ∙ always (ltb p (steps - left))
          ∙ sym (ap (λ t. cond ((t && ltb p (b + steps)) || ltb (p + n) (b + steps)) (Char c) (cell_at cells p)) (le-leb b p more)
          ∙ ap (λ t. cond (t || ltb (p + n) (b + steps)) (Char c) (cell_at cells p)) (lt-ltb p (b + steps) (omega arith)))
    ]))
  where
    always : (t : Bool) → cond t (Char c) (Char c) ≡ Char c
    always true = refl
    always false = refl

    near : (p : ℕ) → p < b → ltb p (steps - left) ≡ ltb (p + length cells) (b + steps)
    near p less = elim (cases_lt p (steps - left)) [
      | inl lt ↦ lt-ltb p (steps - left) lt ∙ sym (lt-ltb (p + length cells) (b + steps) (omega arith))
      | inr ge ↦ le-ltb p (steps - left) ge ∙ sym (le-ltb (p + length cells) (b + steps) (omega arith))
    ]

-- ---- a part of a run
mod_part : (n x at c : ℕ) → at ≡ x % n → at + c < n → (x + c) % n ≡ at + c
mod_part n x at c is lt = sym (mod-add-mod x n c) ∙ ap (λ r. (r + c) % n) (sym is) ∙ mod-eq_of_lt lt

pub run_part : (cells : List Cell) (b : ℕ) (run : List ℕ) (k at count p : ℕ) → at ≡ (b + k) % length cells → at + count ≤ length cells
    → cond (leb at p && ltb p (at + count)) (Char (glyph (get_or run (k + (p - at)) 0) false)) (run_cell cells b run k p) ≡ run_cell cells b run (k + count) p
run_part cells b run k at zero p is fits =
    let x : Cell = Char (glyph (get_or run (k + (p - at)) 0) false) in
    let none : at + 0 ≡ at = omega arith in
    let same : k ≡ k + 0 = omega arith in
    ap (λ e. cond (leb at p && ltb p e) x (run_cell cells b run k p)) none ∙ nothing at p x (run_cell cells b run k p) ∙ ap (λ j. run_cell cells b run j p) same
  where
    nothing : (at p : ℕ) (x y : Cell) → cond (leb at p && ltb p at) x y ≡ y
    nothing at p x y = elim (cases_lt p at) [
      | inl less ↦ ap (λ t. cond (t && ltb p at) x y) (lt-leb at p less)
      | inr more ↦ ap (λ t. cond (t && ltb p at) x y) (le-leb at p more) ∙ ap (λ t. cond t x y) (le-ltb p at more)
    ]
run_part cells b run k at (suc c) p is fits =
    let n : ℕ = length cells in
    let x : Cell = Char (glyph (get_or run (k + (p - at)) 0) false) in
    let falls : (b + (k + c)) % n ≡ at + c = ap (λ y. y % n) (omega arith) ∙ mod_part n (b + k) at c is (omega arith) in
    let more : k + suc c ≡ k + c + 1 = omega arith in
    let next : at + suc c ≡ at + c + 1 = omega arith in
    elim (cases_eq p (at + c)) [
      | inl same ↦
          let there : k + (p - at) ≡ k + c = omega (arith, same) in
          ap (λ t. cond (t && ltb p (at + suc c)) x (run_cell cells b run k p)) (le-leb at p (omega (arith, same)))
          ∙ ap (λ t. cond t x (run_cell cells b run k p)) (lt-ltb p (at + suc c) (omega (arith, same)))
          ∙ ap (λ j. Char (glyph (get_or run j 0) false)) there
          ∙ sym (ap (byte_cell cells run p) (ap (λ j. greatest j (λ i. eqb ((b + i) % n) p)) more
          ∙ greatest_hit (k + c) (λ i. eqb ((b + i) % n) p) (eq-eqb _ _ (falls ∙ sym same))))
      | inr apart ↦
          ap (λ t. cond t x (run_cell cells b run k p)) (ap (λ e. leb at p && ltb p e) next ∙ both_ends at (at + c) p (omega arith) apart)
          ∙ run_part cells b run k at c p is (omega arith)
          ∙ sym (ap (byte_cell cells run p) (ap (λ j. greatest j (λ i. eqb ((b + i) % n) p)) more
          ∙ greatest_miss (k + c) (λ i. eqb ((b + i) % n) p) (ne_eqb _ _ (λ same. apart (sym (sym falls ∙ same))))))
    ]

pub part_written : (cells now : List Cell) (b : ℕ) (run : List ℕ) (done at count : ℕ) → now ≡ ruled (length cells) (run_cell cells b run done) → at ≡ (b + done) % length cells → at + count ≤ length cells
    → ruled (length now) (written_cell now at run done count) ≡ ruled (length cells) (run_cell cells b run (done + count))
part_written cells now b run done at count stored is fits =
    let n : ℕ = length cells in
    let first : List Cell = ruled n (run_cell cells b run done) in
    ap (λ l. ruled (length l) (written_cell l at run done count)) stored
    ∙ ap (λ m. ruled m (written_cell first at run done count)) (length-ruled n (run_cell cells b run done))
    ∙ ruled_same n (written_cell first at run done count) (run_cell cells b run (done + count))
    (λ p lt. ap (cond (leb at p && ltb p (at + count)) (Char (glyph (get_or run (done + (p - at)) 0) false))) (cell_at-ruled n (run_cell cells b run done) p lt)
    ∙ run_part cells b run done at count p is fits)

-- where the next part begins
pub part_next : (n b done at count : ℕ) → at ≡ (b + done) % n → at + count < n → at + count ≡ (b + (done + count)) % n
part_next n b done at count is lt = sym (ap (λ x. x % n) (omega arith) ∙ mod_part n (b + done) at count is lt)

pub part_round : (n b done at count : ℕ) → 0 < n → at ≡ (b + done) % n → at + count ≡ n → 0 ≡ (b + (done + count)) % n
part_round n b done at count some is full =
    sym (ap (λ x. x % n) (omega arith) ∙ sym (mod-add-mod (b + done) n count) ∙ ap (λ r. (r + count) % n) (sym is) ∙ ap (λ x. x % n) full ∙ mod_self n)
