-- Program Tab: the first attribute ahead, and what is nulled on the way.
use Rattle.std.proofs.Common.{◌≡◌, ◌≢◌, ℕ, ◌+◌, ◌-◌, ◌<◌, ◌≤◌, ◌⊎◌, ◌&&◌, Bool, true, false, not, cond, ltb, leb, List, length, set, Option, Some, None, refl, sym, ◌∙◌, ap, subst, arith, inl, inr}
use Rattle.std.specs.Option.{option_map, unwrap_or}
use Rattle.std.proofs.lemmas.Bool.{cond-true, cases_lt, not-false, lt-ltb, le-ltb, le-leb, lt-leb}
use Rattle.ds_codec.specs.declared.cell.Cell.{Cell}
use Rattle.ds_codec.specs.declared.cell.Cell.TheVariants.{Field, Char}
use Rattle.ds_screen.specs.declared.state.State.{State}
use Rattle.ds_screen.specs.Picture.{blank, cell_at, ruled}
use Rattle.ds_screen.specs.Fields.{is_attribute}
use Rattle.ds_screen.specs.Orders.{Writing, nulled_cell, first_from, is_unprotected_attribute, behind, tab_stop, tabbed}
use Rattle.ds_screen.specs.State.{writing}
use Rattle.ds_screen.proofs.RingLaws.{least_at, least_none, on_lt, search_cases}
use Rattle.ds_screen.proofs.RuledLaws.{as_ruled, length-ruled, cell_at-ruled, set-ruled}

-- the first place that passes, from b on
pub record IsFirst (test : Cell → Bool) (cells : List Cell) (b p : ℕ) : Type 0 where
  pub ahead : b ≤ p
  pub inside : p < length cells
  pub misses : (q : ℕ) → b ≤ q → q < p → test (cell_at cells q) ≡ false
  pub hit : test (cell_at cells p) ≡ true

pub first_hit : (test : Cell → Bool) (cells : List Cell) (b p : ℕ) → IsFirst test cells b p → first_from test cells b ≡ Some p
unfolding first_from
first_hit test cells b p first =
    let there : b + (p - b) ≡ p = omega (arith, first.ahead) in
    ap (option_map (λ d. b + d)) (least_at (length cells - b) (p - b) (λ d. test (cell_at cells (b + d))) (omega (arith, first.ahead, first.inside))
    (λ d below. first.misses (b + d) (omega arith) (omega (arith, first.ahead))) (ap (λ q. test (cell_at cells q)) there ∙ first.hit))
    ∙ ap (λ q. Some q) there

pub first_miss : (test : Cell → Bool) (cells : List Cell) (b : ℕ) → ((q : ℕ) → b ≤ q → q < length cells → test (cell_at cells q) ≡ false) → first_from test cells b ≡ None
unfolding first_from
first_miss test cells b misses =
    ap (option_map (λ d. b + d)) (least_none (length cells - b) (λ d. test (cell_at cells (b + d))) (λ d below. misses (b + d) (omega arith) (omega arith)))

pub first_cases : (test : Cell → Bool) (cells : List Cell) (b : ℕ)
    → ((p : ℕ) × IsFirst test cells b p) ⊎ ((q : ℕ) → b ≤ q → q < length cells → test (cell_at cells q) ≡ false)
first_cases test cells b =
    elim (search_cases (length cells - b) (λ d. test (cell_at cells (b + d)))) [
      | inl found ↦ inl (
        b + found.0,
        record {
          ahead = omega arith;
          inside = omega (arith, found.1.inside);
          misses = λ q from below.
              let there : b + (q - b) ≡ q = omega arith in
              ap (λ z. test (cell_at cells z)) (sym there) ∙ found.1.misses (q - b) (omega arith);
          hit = found.1.hit;
        },
      )
      | inr none ↦ inr (λ q from below.
          let there : b + (q - b) ≡ q = omega arith in
          ap (λ z. test (cell_at cells z)) (sym there) ∙ none (q - b) (omega arith))
    ]

pub behind_lt : (test : Cell → Bool) (cells : List Cell) (b : ℕ) → 0 < length cells → behind (length cells) (first_from test cells b) < length cells
behind_lt test cells b some =
    elim (first_cases test cells b) [
      | inl first ↦
          let P : Option ℕ → Type 0 = λ o. behind (length cells) o < length cells in
          subst P (sym (first_hit test cells b first.0 first.1)) (on_lt (length cells) first.0 1 first.1.inside (omega arith))
      | inr none ↦
          let P : Option ℕ → Type 0 = λ o. behind (length cells) o < length cells in
          subst P (sym (first_miss test cells b none)) some
    ]

-- nulling, position by position
outside_nulled : (cells : List Cell) (b stop p : ℕ) → stop ≤ p → nulled_cell cells b stop p ≡ cell_at cells p
unfolding nulled_cell
outside_nulled cells b stop p far = ap (λ t. cond (leb b p && t) blank (cell_at cells p)) (le-ltb p stop far) ∙ both_false (leb b p) blank (cell_at cells p)
  where
    both_false : (t : Bool) (x y : Cell) → cond (t && false) x y ≡ y
    both_false true x y = refl
    both_false false x y = refl

inside_nulled : (cells : List Cell) (b stop p : ℕ) → b ≤ p → p < stop → nulled_cell cells b stop p ≡ blank
unfolding nulled_cell
inside_nulled cells b stop p from below =
    ap (λ t. cond (t && ltb p stop) blank (cell_at cells p)) (le-leb b p from) ∙ cond-true (ltb p stop) _ _ (lt-ltb p stop below)

before_nulled : (cells : List Cell) (b stop p : ℕ) → p < b → nulled_cell cells b stop p ≡ cell_at cells p
unfolding nulled_cell
before_nulled cells b stop p below = ap (λ t. cond (t && ltb p stop) blank (cell_at cells p)) (lt-leb b p below)

pub null_none : (cells : List Cell) (b : ℕ) → cells ≡ ruled (length cells) (nulled_cell cells b b)
null_none cells b =
    as_ruled cells (length cells) (nulled_cell cells b b) refl
    (λ p lt. elim (cases_lt p b) [ inl below ↦ sym (before_nulled cells b b p below) | inr far ↦ sym (outside_nulled cells b b p far) ])

same_nulled : (cells : List Cell) (b stop p : ℕ) → p ≢ stop → nulled_cell cells b (stop + 1) p ≡ nulled_cell cells b stop p
same_nulled cells b stop p apart =
    elim (cases_lt p b) [
      | inl before ↦ before_nulled cells b (stop + 1) p before ∙ sym (before_nulled cells b stop p before)
      | inr from ↦ elim (cases_lt p stop) [
        | inl below ↦ inside_nulled cells b (stop + 1) p from (omega arith) ∙ sym (inside_nulled cells b stop p from below)
        | inr far ↦ outside_nulled cells b (stop + 1) p (omega arith) ∙ sym (outside_nulled cells b stop p far)
      ]
    ]

pub null_more : (cells : List Cell) (b stop : ℕ) (now after : List Cell) (c : Cell) → b ≤ stop → stop < length cells
    → now ≡ ruled (length cells) (nulled_cell cells b stop) → c ≡ blank → after ≡ set now stop c → after ≡ ruled (length cells) (nulled_cell cells b (stop + 1))
null_more cells b stop now after c from lt stored is writes =
    writes ∙ ap (λ xs. set xs stop c) stored
    ∙ set-ruled (length cells) (nulled_cell cells b stop) (nulled_cell cells b (stop + 1)) stop c lt
    (inside_nulled cells b (stop + 1) stop from (omega arith) ∙ sym is) (λ p below apart. same_nulled cells b stop p apart)

pub null_sees : (cells : List Cell) (b stop p : ℕ) (now : List Cell) → p < length cells → stop ≤ p → now ≡ ruled (length cells) (nulled_cell cells b stop)
    → cell_at now p ≡ cell_at cells p
null_sees cells b stop p now lt far stored =
    ap (λ xs. cell_at xs p) stored ∙ cell_at-ruled (length cells) (nulled_cell cells b stop) p lt ∙ outside_nulled cells b stop p far

pub length_nulled : (cells : List Cell) (b stop : ℕ) (now : List Cell) → now ≡ ruled (length cells) (nulled_cell cells b stop) → length now ≡ length cells
length_nulled cells b stop now stored = ap length stored ∙ length-ruled (length cells) (nulled_cell cells b stop)

not_unprotected : (c : Cell) → is_attribute c ≡ false → is_unprotected_attribute c ≡ false
not_unprotected (Field bits) none = absurd cc
not_unprotected (Char character) none = refl

-- what is behind the first attribute is still there when the positions before it are nulls
pub stop_kept : (cells now : List Cell) (b e : ℕ) → IsFirst is_attribute cells b e → now ≡ ruled (length cells) (nulled_cell cells b e)
    → tab_stop now e ≡ tab_stop cells b
stop_kept cells now b e first stored =
    let len : length now ≡ length cells = length_nulled cells b e now stored in
    ap (λ n. behind n (first_from is_unprotected_attribute now e)) len
    ∙ ap (behind (length cells)) (found_same cells now b e first stored len (first_cases is_unprotected_attribute now e))
  where
    early : (cells : List Cell) (b e : ℕ) → IsFirst is_attribute cells b e → (q : ℕ) → b ≤ q → q < e → is_unprotected_attribute (cell_at cells q) ≡ false
    early cells b e first q from below = not_unprotected (cell_at cells q) (first.misses q from below)

    found_same : (cells now : List Cell) (b e : ℕ) → IsFirst is_attribute cells b e → now ≡ ruled (length cells) (nulled_cell cells b e) → length now ≡ length cells
        → ((p : ℕ) × IsFirst is_unprotected_attribute now e p) ⊎ ((q : ℕ) → e ≤ q → q < length now → is_unprotected_attribute (cell_at now q) ≡ false)
        → first_from is_unprotected_attribute now e ≡ first_from is_unprotected_attribute cells b
    found_same cells now b e first stored len (inl found) =
        first_hit is_unprotected_attribute now e found.0 found.1
        ∙ sym (first_hit is_unprotected_attribute cells b found.0 record {
          ahead = omega (arith, first.ahead, found.1.ahead);
          inside = omega (arith, found.1.inside);
          misses = λ q from below. elim (cases_lt q e) [
            | inl lt ↦ early cells b e first q from lt
            | inr far ↦ ap is_unprotected_attribute (sym (null_sees cells b e q now (omega (arith, found.1.inside)) far stored)) ∙ found.1.misses q far below
          ];
          hit = ap is_unprotected_attribute (sym (null_sees cells b e found.0 now (omega (arith, found.1.inside)) found.1.ahead stored)) ∙ found.1.hit;
        })
    found_same cells now b e first stored len (inr none) =
        first_miss is_unprotected_attribute now e none
        ∙ sym (first_miss is_unprotected_attribute cells b (λ q from below. elim (cases_lt q e) [
          | inl lt ↦ early cells b e first q from lt
          | inr far ↦ ap is_unprotected_attribute (sym (null_sees cells b e q now below far stored)) ∙ none q far (omega arith)
        ]))

-- what the place says of the first attribute
pub first_below : (test : Cell → Bool) (cells : List Cell) (b place : ℕ) → place ≡ unwrap_or (first_from test cells b) (length cells) → place < length cells
    → IsFirst test cells b place
first_below test cells b place is lt =
    elim (first_cases test cells b) [
      | inl first ↦
          let same : first.0 ≡ place = sym (is ∙ ap (λ o. unwrap_or o (length cells)) (first_hit test cells b first.0 first.1)) in
          let P : ℕ → Type 0 = λ p. IsFirst test cells b p in
          subst P same first.1
      | inr none ↦
          let end : place ≡ length cells = is ∙ ap (λ o. unwrap_or o (length cells)) (first_miss test cells b none) in
          absurd (omega arith)
    ]

pub first_past : (test : Cell → Bool) (cells : List Cell) (b place : ℕ) → place ≡ unwrap_or (first_from test cells b) (length cells) → length cells ≤ place
    → (place ≡ length cells) × (first_from test cells b ≡ None)
first_past test cells b place is far =
    elim (first_cases test cells b) [
      | inl first ↦
          let same : first.0 ≡ place = sym (is ∙ ap (λ o. unwrap_or o (length cells)) (first_hit test cells b first.0 first.1)) in
          absurd (omega (arith, first.1.inside))
      | inr none ↦ (is ∙ ap (λ o. unwrap_or o (length cells)) (first_miss test cells b none), first_miss test cells b none)
    ]

pub one_more : (test : ℕ → Bool) (b p : ℕ) → ((q : ℕ) → b ≤ q → q < p → test q ≡ false) → test p ≡ false → (q : ℕ) → b ≤ q → q < p + 1 → test q ≡ false
one_more test b p misses here q from below =
    elim (cases_lt q p) [
      | inl lt ↦ misses q from lt
      | inr far ↦ let same : q ≡ p = omega arith in ap test same ∙ here
    ]

abbrev to_writing : List Cell → ℕ → ℕ → Bool → Writing
to_writing cells cursor address nulling = record { cells = cells; cursor = cursor; address = address; nulling = nulling }

pub tab_found : (cells now : List Cell) (state : State) (place address : ℕ) → not state.nulling ≡ false
    → place ≡ unwrap_or (first_from is_attribute cells state.address) (length cells) → place < length cells
    → now ≡ ruled (length cells) (nulled_cell cells state.address place) → address ≡ tab_stop now place
    → writing now (record { cursor = state.cursor; address = address; nulling = false })
    ≡ tabbed (writing cells state) state.nulling (first_from is_attribute cells state.address)
tab_found cells now state place address nulls is lt stored stop =
    let first = first_below is_attribute cells state.address place is lt in
    let b : ℕ = state.address in
    ap (λ xs. to_writing xs state.cursor address false) stored
    ∙ ap (λ a. to_writing (ruled (length cells) (nulled_cell cells b place)) state.cursor a false) (stop ∙ stop_kept cells now b place first stored)
    ∙ sym (ap (λ t. tabbed (writing cells state) t (first_from is_attribute cells b)) (not-false state.nulling nulls)
    ∙ ap (tabbed (writing cells state) true) (first_hit is_attribute cells b place first))

pub tab_ran : (cells now : List Cell) (state : State) (place : ℕ) → not state.nulling ≡ false
    → place ≡ unwrap_or (first_from is_attribute cells state.address) (length cells) → length cells ≤ place
    → now ≡ ruled (length cells) (nulled_cell cells state.address place)
    → writing now (record { cursor = state.cursor; address = 0; nulling = true })
    ≡ tabbed (writing cells state) state.nulling (first_from is_attribute cells state.address)
tab_ran cells now state place nulls is far stored =
    let past = first_past is_attribute cells state.address place is far in
    let b : ℕ = state.address in
    ap (λ xs. to_writing xs state.cursor 0 true) (stored ∙ ap (λ e. ruled (length cells) (nulled_cell cells b e)) past.0)
    ∙ sym (ap (λ t. tabbed (writing cells state) t (first_from is_attribute cells b)) (not-false state.nulling nulls)
    ∙ ap (tabbed (writing cells state) true) past.1)
