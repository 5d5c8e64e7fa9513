-- Characters between two attributes, round the ring.
use Rattle.std.proofs.Common.{◌≡◌, ℕ, zero, suc, ◌+◌, ◌-◌, ◌<◌, ◌≤◌, Bool, true, false, not, ◌&&◌, cond, ltb, List, length, min, Some, None, refl, sym, ◌∙◌, ap, arith, inl, inr}
use Rattle.std.proofs.lemmas.Bool.{cond-true, cond-false, cases_Bool, cases_lt, cases_eq, lt-ltb, le-ltb}
use Rattle.ds_codec.specs.declared.cell.Cell.{Cell}
use Rattle.ds_codec.specs.declared.cell.Cell.TheVariants.{Field, Char}
use Rattle.ds_codec.specs.Attribute.{is_protected}
use Rattle.ds_screen.specs.Ring.{ring_on, ring_back, ring_distance}
use Rattle.ds_places.specs.Places.{is_round}
use Rattle.ds_screen.specs.Picture.{blank, cell_at, ruled}
use Rattle.ds_screen.specs.Fields.{is_attribute, attribute_from, ruling_bits, ruling_after, is_open_under, is_open}
use Rattle.ds_screen.specs.Planes.{HasNone, stretch_cell}
use Rattle.ds_screen.proofs.RingLaws.{distance_cases, on_cases, on-zero, on_lt, on_more, search_cases}
use Rattle.ds_screen.proofs.RuledLaws.{length-ruled, cell_at-ruled, ruled_same, as_ruled, walked_cell, walk_skips, place_before, distance_on, on_distance, distance_lt}
use Rattle.ds_screen.proofs.EraseLaws.{nulled_open}
use Rattle.ds_screen.proofs.FieldLaws.{ruling_more, from_found, from_none}
use Rattle.ds_screen.proofs.MarkLaws.{keeps, open_shut, open_free, round_distance}

pub on_sum : (n p a d : ℕ) → p < n → a + d ≤ n → ring_on n (ring_on n p a) d ≡ ring_on n p (a + d)
on_sum n p a d inside few =
    elim (on_cases n p a) [
      | inl x ↦ elim (on_cases n (ring_on n p a) d) [
        | inl y ↦ elim (on_cases n p (a + d)) [ inl z ↦ omega arith | inr z ↦ omega arith ]
        | inr y ↦ elim (on_cases n p (a + d)) [ inl z ↦ omega arith | inr z ↦ omega arith ]
      ]
      | inr x ↦ elim (on_cases n (ring_on n p a) d) [
        | inl y ↦ elim (on_cases n p (a + d)) [ inl z ↦ omega arith | inr z ↦ omega arith ]
        | inr y ↦ elim (on_cases n p (a + d)) [ inl z ↦ omega arith | inr z ↦ omega arith ]
      ]
    ]

-- characters are ruled by what rules the position before the first of them
pub stretch_ruled : (cells : List Cell) (at run before e : ℕ) → at < length cells → run ≤ length cells → HasNone cells at run → before ≡ ruling_bits cells (ring_back (length cells) at 1)
    → e < run → ruling_bits cells (ring_on (length cells) at e) ≡ before
stretch_ruled cells at run before zero inside few none ruled lt =
    let n : ℕ = length cells in
    let here : ring_on n at 0 ≡ at = on-zero n at inside in
    ap (ruling_bits cells) here ∙ ruling_more cells at inside ∙ ap (λ r. ruling_after r (cell_at cells at)) (sym ruled)
    ∙ keeps before (cell_at cells at) (ap (λ q. is_attribute (cell_at cells q)) (sym here) ∙ none 0 lt)
stretch_ruled cells at run before (suc e) inside few none ruled lt =
    let n : ℕ = length cells in
    let p : ℕ = ring_on n at e in
    let q : ℕ = ring_on n at (e + 1) in
    let step : q ≡ ring_on n p 1 = sym (on_more n at e inside (omega arith)) in
    let last : suc e ≡ e + 1 = omega arith in
    let back : ring_back n q 1 ≡ p = place_before n n p q (on_lt n at e inside (omega arith)) refl step in
    ap (λ k. ruling_bits cells (ring_on n at k)) last ∙ ruling_more cells q (on_lt n at (e + 1) inside (omega arith))
    ∙ ap (λ r. ruling_after (ruling_bits cells r) (cell_at cells q)) back
    ∙ ap (λ r. ruling_after r (cell_at cells q)) (stretch_ruled cells at run before e inside few none ruled (omega arith))
    ∙ keeps before (cell_at cells q) (none (e + 1) (omega arith))

pub stretch_shut : (cells : List Cell) (at run before e : ℕ) → at < length cells → run ≤ length cells → HasNone cells at run → before ≡ ruling_bits cells (ring_back (length cells) at 1)
    → is_protected before ≡ true → e < run → is_open cells (ring_on (length cells) at e) ≡ false
stretch_shut cells at run before e inside few none ruled shut lt =
    open_shut cells (ring_on (length cells) at e) before (stretch_ruled cells at run before e inside few none ruled lt) shut

pub stretch_open : (cells : List Cell) (at run before e : ℕ) → at < length cells → run ≤ length cells → HasNone cells at run → before ≡ ruling_bits cells (ring_back (length cells) at 1)
    → is_protected before ≡ false → e < run → is_open cells (ring_on (length cells) at e) ≡ true
stretch_open cells at run before e inside few none ruled free lt =
    open_free cells (ring_on (length cells) at e) before (stretch_ruled cells at run before e inside few none ruled lt) (none e lt) free

-- an attribute rules by itself, and is not open
pub own_rule : (before other : ℕ) (c : Cell) → is_attribute c ≡ true → ruling_after before c ≡ ruling_after other c
own_rule before other (Field bits) there = refl
own_rule before other (Char c) there = absurd cc

attribute_shut : (ruling : ℕ) (c : Cell) → is_attribute c ≡ true → is_open_under ruling c ≡ false
attribute_shut ruling (Field bits) there = refl
attribute_shut ruling (Char c) there = absurd cc

pub attribute_not_open : (cells : List Cell) (p : ℕ) → is_attribute (cell_at cells p) ≡ true → is_open cells p ≡ false
attribute_not_open cells p there = attribute_shut (ruling_bits cells p) (cell_at cells p) there

-- ---- a search from one position, beside one from another so many steps on
abbrev pub NoneOpenFor : List Cell → ℕ → ℕ → Type 0
NoneOpenFor cells from gone = (d : ℕ) → d < gone → is_open cells (ring_on (length cells) from d) ≡ false

pub misses_run : (cells : List Cell) (from gone at run : ℕ) → from < length cells → gone + run ≤ length cells → at ≡ ring_on (length cells) from gone
    → ((e : ℕ) → e < run → is_open cells (ring_on (length cells) at e) ≡ false) → NoneOpenFor cells from gone → NoneOpenFor cells from (gone + run)
misses_run cells from gone at run inside few here shut misses d below =
    elim (cases_lt d gone) [
      | inl early ↦ misses d early
      | inr late ↦
          let n : ℕ = length cells in
          let there : gone + (d - gone) ≡ d = omega arith in
          ap (is_open cells) (sym (ap (λ q. ring_on n q (d - gone)) here ∙ on_sum n from gone (d - gone) inside (omega arith) ∙ ap (ring_on n from) there))
          ∙ shut (d - gone) (omega arith)
    ]

pub misses_one : (cells : List Cell) (from gone stop : ℕ) → stop ≡ ring_on (length cells) from gone → is_open cells stop ≡ false → NoneOpenFor cells from gone → NoneOpenFor cells from (gone + 1)
misses_one cells from gone stop here shut misses d below =
    elim (cases_eq d gone) [
      | inl same ↦ ap (λ k. is_open cells (ring_on (length cells) from k)) same ∙ ap (is_open cells) (sym here) ∙ shut
      | inr apart ↦ misses d (omega arith)
    ]

-- ---- how far the next attribute is
abbrev pub IsStretch : List Cell → ℕ → ℕ → ℕ → Type 0
IsStretch cells at most run =
    HasNone cells at run × (run < most → is_attribute (cell_at cells (ring_on (length cells) at run)) ≡ true)

same_some : (a b : ℕ) → Some a ≡ Some b → a ≡ b
same_some a b e = cc

pub stretch_to : (cells : List Cell) (n at most q steps run : ℕ) → n ≡ length cells → at < n → Some q ≡ attribute_from cells at → steps ≡ ring_distance n at q → run ≡ min steps most
    → IsStretch cells at most run
stretch_to cells n at most q steps run len inside nearest far is =
    let m : ℕ = length cells in
    elim (search_cases m (λ d. is_attribute (cell_at cells (ring_on m at d)))) [
      | inl found ↦
          let same : q ≡ ring_on m at found.0 = same_some _ _ (nearest ∙ sym (from_found cells m at found.0 (ring_on m at found.0) refl found.1.inside refl found.1.misses found.1.hit)) in
          let steps_is : steps ≡ found.0 = far ∙ ap (λ k. ring_distance k at q) len ∙ ap (ring_distance m at) same ∙ distance_on m at found.0 (omega (arith, len)) found.1.inside in (
            λ d lt. found.1.misses d (omega (arith, steps_is)),
            λ less. (let all : run ≡ found.0 = omega (arith, steps_is) in ap (λ k. is_attribute (cell_at cells (ring_on m at k))) all ∙ found.1.hit),
          )
      | inr none ↦ let e = nearest ∙ sym (from_none cells m at refl none) in absurd cc
    ]

pub stretch_whole : (cells : List Cell) (at most : ℕ) → most ≤ length cells → None ≡ attribute_from cells at → IsStretch cells at most most
stretch_whole cells at most few nearest =
    let m : ℕ = length cells in
    elim (search_cases m (λ d. is_attribute (cell_at cells (ring_on m at d)))) [
      | inl found ↦ let e = nearest ∙ sym (from_found cells m at found.0 (ring_on m at found.0) refl found.1.inside refl found.1.misses found.1.hit) in absurd cc
      | inr none ↦ (λ d lt. none d (omega arith), λ less. absurd (omega arith))
    ]

-- ---- nulls in place of what is open
-- a position that lies so far from the first lies nearer to one that lies between the two
distance_from : (n b gone p : ℕ) → b < n → p < n → gone < n → gone ≤ ring_distance n b p → ring_distance n (ring_on n b gone) p ≡ ring_distance n b p - gone
distance_from n b gone p inside lt few far =
    elim (distance_cases n b p) [
      | inl d ↦ elim (on_cases n b gone) [
        | inl a ↦ elim (distance_cases n (ring_on n b gone) p) [ inl e ↦ omega (arith, d, a, e) | inr e ↦ omega (arith, d, a, e) ]
        | inr a ↦ elim (distance_cases n (ring_on n b gone) p) [ inl e ↦ omega (arith, d, a, e) | inr e ↦ omega (arith, d, a, e) ]
      ]
      | inr d ↦ elim (on_cases n b gone) [
        | inl a ↦ elim (distance_cases n (ring_on n b gone) p) [ inl e ↦ omega (arith, d, a, e) | inr e ↦ omega (arith, d, a, e) ]
        | inr a ↦ elim (distance_cases n (ring_on n b gone) p) [ inl e ↦ omega (arith, d, a, e) | inr e ↦ omega (arith, d, a, e) ]
      ]
    ]

distance_behind : (n b gone p : ℕ) → b < n → p < n → gone < n → ring_distance n b p < gone → n - gone ≤ ring_distance n (ring_on n b gone) p
distance_behind n b gone p inside lt few near =
    elim (distance_cases n b p) [
      | inl d ↦ elim (on_cases n b gone) [
        | inl a ↦ elim (distance_cases n (ring_on n b gone) p) [ inl e ↦ omega (arith, d, a, e) | inr e ↦ omega (arith, d, a, e) ]
        | inr a ↦ elim (distance_cases n (ring_on n b gone) p) [ inl e ↦ omega (arith, d, a, e) | inr e ↦ omega (arith, d, a, e) ]
      ]
      | inr d ↦ elim (on_cases n b gone) [
        | inl a ↦ elim (distance_cases n (ring_on n b gone) p) [ inl e ↦ omega (arith, d, a, e) | inr e ↦ omega (arith, d, a, e) ]
        | inr a ↦ elim (distance_cases n (ring_on n b gone) p) [ inl e ↦ omega (arith, d, a, e) | inr e ↦ omega (arith, d, a, e) ]
      ]
    ]

-- nulling what is open keeps the attributes
pub nulled_attribute : (cells : List Cell) (b gone p : ℕ) → p < length cells → is_attribute (cell_at (ruled (length cells) (walked_cell cells b gone (nulled_open cells))) p) ≡ is_attribute (cell_at cells p)
nulled_attribute cells b gone p lt =
    ap is_attribute (cell_at-ruled (length cells) (walked_cell cells b gone (nulled_open cells)) p lt)
    ∙ kept (ltb (ring_distance (length cells) b p) gone) (is_open cells p) (cell_at cells p) (ruling_bits cells p) refl
  where
    kept : (t o : Bool) (c : Cell) (r : ℕ) → o ≡ is_open_under r c → is_attribute (cond t (cond o blank c) c) ≡ is_attribute c
    kept false o c r is = refl
    kept true false c r is = refl
    kept true true (Char c) r is = refl
    kept true true (Field bits) r is = absurd cc

pub stretch_before : (cells now : List Cell) (b gone at run : ℕ) → now ≡ ruled (length cells) (walked_cell cells b gone (nulled_open cells)) → at < length cells → run ≤ length cells
    → HasNone now at run → HasNone cells at run
stretch_before cells now b gone at run stored inside few none d lt =
    let n : ℕ = length cells in
    let len : length now ≡ n = ap length stored ∙ length-ruled n (walked_cell cells b gone (nulled_open cells)) in
    sym (nulled_attribute cells b gone (ring_on n at d) (on_lt n at d inside (omega arith)))
    ∙ ap (λ l. is_attribute (cell_at l (ring_on n at d))) (sym stored) ∙ ap (λ m. is_attribute (cell_at now (ring_on m at d))) (sym len) ∙ none d lt

-- a stretch more
pub nulled_more : (cells : List Cell) (b gone at run before : ℕ) (free : Bool) → b < length cells → gone < length cells → gone + run ≤ length cells → at ≡ ring_on (length cells) b gone
    → HasNone cells at run → before ≡ ruling_bits cells (ring_back (length cells) at 1) → free ≡ not (is_protected before)
    → ruled (length cells) (λ p. cond (free && ltb (ring_distance (length cells) at p) run) blank (walked_cell cells b gone (nulled_open cells) p))
    ≡ ruled (length cells) (walked_cell cells b (gone + run) (nulled_open cells))
nulled_more cells b gone at run before free inside some few here none ruled_by is =
    let n : ℕ = length cells in
    let at_in : at < n = (let lt = on_lt n b gone inside (omega arith) in omega (arith, lt, here)) in
    ruled_same n _ _ (λ p lt.
    let d : ℕ = ring_distance n b p in
    let x : Cell = cond (is_open cells p) blank (cell_at cells p) in
    elim (cases_lt d gone) [
      | inl early ↦
          let far = distance_behind n b gone p inside lt some early in
          ap (λ t. cond (free && t) blank (cond (ltb d gone) x (cell_at cells p))) (le-ltb (ring_distance n at p) run (omega (arith, far, ap (λ q. ring_distance n q p) here)))
          ∙ shut_and free (cond (ltb d gone) x (cell_at cells p))
          ∙ cond-true (ltb d gone) x (cell_at cells p) (lt-ltb d gone early) ∙ sym (cond-true (ltb d (gone + run)) x (cell_at cells p) (lt-ltb d (gone + run) (omega arith)))
      | inr late ↦
          let near : ring_distance n at p ≡ d - gone = ap (λ q. ring_distance n q p) here ∙ distance_from n b gone p inside lt some late in
          ap (λ y. cond (free && ltb (ring_distance n at p) run) blank y) (cond-false (ltb d gone) x (cell_at cells p) (le-ltb d gone late))
          ∙ (elim (cases_lt d (gone + run)) [
            | inl within ↦
                let e : ℕ = d - gone in
                let spot : ring_on n at e ≡ p = ap (λ q. ring_on n q e) here ∙ on_sum n b gone e inside (omega (arith, distance_lt n b p inside lt)) ∙ ap (ring_on n b) (omega arith) ∙ on_distance n b p inside lt in
                ap (λ t. cond (free && t) blank (cell_at cells p)) (lt-ltb (ring_distance n at p) run (omega (arith, near)))
                ∙ ap (λ t. cond (t && true) blank (cell_at cells p)) (is ∙ sym (opens at_in p e spot (omega arith)))
                ∙ ap (λ t. cond t blank (cell_at cells p)) (and_true (is_open cells p))
                ∙ sym (cond-true (ltb d (gone + run)) x (cell_at cells p) (lt-ltb d (gone + run) within))
            | inr past ↦
                ap (λ t. cond (free && t) blank (cell_at cells p)) (le-ltb (ring_distance n at p) run (omega (arith, near)))
                ∙ shut_and free (cell_at cells p)
                ∙ sym (cond-false (ltb d (gone + run)) x (cell_at cells p) (le-ltb d (gone + run) past))
          ])
    ])
  where
    shut_and : (t : Bool) (y : Cell) → cond (t && false) blank y ≡ y
    shut_and true y = refl
    shut_and false y = refl

    and_true : (t : Bool) → (t && true) ≡ t
    and_true true = refl
    and_true false = refl

    opens : at < length cells → (p e : ℕ) → ring_on (length cells) at e ≡ p → e < run → is_open cells p ≡ not (is_protected before)
    opens at_in p e spot lt =
        elim (cases_Bool (is_protected before)) [
          | inl shut ↦ ap (is_open cells) (sym spot) ∙ stretch_shut cells at run before e at_in (omega arith) none ruled_by shut lt ∙ sym (ap not shut)
          | inr open_now ↦ ap (is_open cells) (sym spot) ∙ stretch_open cells at run before e at_in (omega arith) none ruled_by open_now lt ∙ sym (ap not open_now)
        ]

-- a position that holds an attribute more
pub nulled_one : (cells : List Cell) (b gone stop : ℕ) → b < length cells → gone < length cells → stop ≡ ring_on (length cells) b gone → is_attribute (cell_at cells stop) ≡ true
    → ruled (length cells) (walked_cell cells b gone (nulled_open cells)) ≡ ruled (length cells) (walked_cell cells b (gone + 1) (nulled_open cells))
nulled_one cells b gone stop inside few here there =
    walk_skips cells b gone (nulled_open cells) inside few
    (ap (nulled_open cells) (sym here) ∙ ap (λ t. cond t blank (cell_at cells stop)) (attribute_not_open cells stop there) ∙ ap (cell_at cells) here)

-- ---- a stretch that is nulled
pub stretch_filled : (cells : List Cell) (at run : ℕ) (free : Bool) → free ≡ true → at < length cells → run ≤ length cells
    → ruled (length cells) (λ p. cond (is_round (length cells) at run p) blank (cell_at cells p))
    ≡ ruled (length cells) (λ p. cond (free && ltb (ring_distance (length cells) at p) run) blank (cell_at cells p))
stretch_filled cells at run free is inside few =
    ruled_same (length cells) _ _
    (λ p lt. ap (λ t. cond t blank (cell_at cells p)) (round_distance (length cells) at run p inside lt few ∙ ap (λ t. t && ltb (ring_distance (length cells) at p) run) (sym is)))

pub stretch_left : (cells : List Cell) (at run : ℕ) (free : Bool) → free ≡ false
    → cells ≡ ruled (length cells) (λ p. cond (free && ltb (ring_distance (length cells) at p) run) blank (cell_at cells p))
stretch_left cells at run free is =
    as_ruled cells (length cells) _ refl (λ p lt. sym (ap (λ t. cond (t && ltb (ring_distance (length cells) at p) run) blank (cell_at cells p)) is))

-- a stretch more, from what a method left
pub stretch_stored : (cells now after : List Cell) (b gone at run before : ℕ) → b < length cells → gone < length cells → gone + run ≤ length cells → at ≡ ring_on (length cells) b gone
    → now ≡ ruled (length cells) (walked_cell cells b gone (nulled_open cells)) → HasNone cells at run → before ≡ ruling_bits cells (ring_back (length cells) at 1)
    → after ≡ ruled (length now) (stretch_cell now at run (not (is_protected before))) → after ≡ ruled (length cells) (walked_cell cells b (gone + run) (nulled_open cells))
stretch_stored cells now after b gone at run before inside some few here stored none ruled_by is =
    let n : ℕ = length cells in
    let f : ℕ → Cell = walked_cell cells b gone (nulled_open cells) in
    let free : Bool = not (is_protected before) in
    let len : length (ruled n f) ≡ n = length-ruled n f in
    is ∙ ap (λ l. ruled (length l) (stretch_cell l at run free)) stored
    ∙ ap (λ m. ruled m (λ p. cond (free && ltb (ring_distance m at p) run) blank (cell_at (ruled n f) p))) len
    ∙ ruled_same n (λ p. cond (free && ltb (ring_distance n at p) run) blank (cell_at (ruled n f) p)) (λ p. cond (free && ltb (ring_distance n at p) run) blank (f p))
    (λ p lt. ap (cond (free && ltb (ring_distance n at p) run) blank) (cell_at-ruled n f p lt))
    ∙ nulled_more cells b gone at run before free inside some few here none ruled_by refl

pub nulled_same : (cells : List Cell) (b gone p : ℕ) → p < length cells → is_attribute (cell_at cells p) ≡ true
    → cell_at (ruled (length cells) (walked_cell cells b gone (nulled_open cells))) p ≡ cell_at cells p
nulled_same cells b gone p lt there =
    cell_at-ruled (length cells) (walked_cell cells b gone (nulled_open cells)) p lt
    ∙ ap (λ o. cond (ltb (ring_distance (length cells) b p) gone) (cond o blank (cell_at cells p)) (cell_at cells p)) (attribute_not_open cells p there)
    ∙ either (ltb (ring_distance (length cells) b p) gone)
  where
    either : (t : Bool) → cond t (cell_at cells p) (cell_at cells p) ≡ cell_at cells p
    either true = refl
    either false = refl
