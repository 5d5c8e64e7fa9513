-- What the searches of the keys come to.
use Rattle.std.proofs.Common.{◌≡◌, ℕ, ◌+◌, ◌-◌, ◌<◌, ◌≤◌, ◌&&◌, Bool, true, false, List, length, min, Some, None, refl, sym, ◌∙◌, ap, arith, inl, inr}
use Rattle.std.specs.Option.{option_map, unwrap_or}
use Rattle.std.proofs.lemmas.Bool.{cond-true, cond-false, cases_lt}
use Rattle.ds_codec.specs.declared.cell.Cell.{Cell}
use Rattle.ds_codec.specs.declared.cell.Cell.TheVariants.{Field, Char}
use Rattle.ds_screen.specs.Ring.{ring_on, ring_back, ring_distance, least}
use Rattle.ds_screen.specs.Picture.{cell_at}
use Rattle.ds_screen.specs.Fields.{is_attribute, is_character, attribute_before}
use Rattle.ds_screen.specs.Orders.{is_unprotected_attribute}
use Rattle.ds_screen.proofs.RingLaws.{least_at, least_none, back_more, back_cases, on_cases, back_lt, distance_cases, search_cases}
use Rattle.ds_screen.proofs.RuledLaws.{place_before}
use Rattle.ds_screen.proofs.FieldLaws.{before_found, before_none}
use Rattle.ds_keys.specs.Kept.{AreBack}
use Rattle.ds_keys.specs.Moves.{is_field_start, start_ahead, start_back, stops_cursor, settled_at, settled}

same_some : (a b : ℕ) → Some a ≡ Some b → a ≡ b
same_some a b e = cc

distance_back : (n p k : ℕ) → p < n → k < n → ring_distance n (ring_back n p k) p ≡ k
distance_back n p k inside few =
    elim (back_cases n p k) [
      | inl a ↦ elim (distance_cases n (ring_back n p k) p) [ inl d ↦ omega arith | inr d ↦ omega arith ]
      | inr a ↦ elim (distance_cases n (ring_back n p k) p) [ inl d ↦ omega arith | inr d ↦ omega arith ]
    ]

-- ---- field starts
-- a test of the cell and of the cell before it is the one for a field's start
pub start_test : (cells : List Cell) (at last : ℕ) (before here : Cell) (result : Bool) → last ≡ ring_back (length cells) at 1
    → before ≡ cell_at cells last → here ≡ cell_at cells at → result ≡ (is_character here && is_unprotected_attribute before)
    → result ≡ is_field_start cells at
start_test cells at last before here result there reads sees tests =
    tests ∙ ap (λ x. is_character x && is_unprotected_attribute before) sees
    ∙ ap (λ x. is_character (cell_at cells at) && is_unprotected_attribute x) (reads ∙ ap (cell_at cells) there)

-- no field starts at so many positions going back from the one before p
abbrev pub NoStartBack : List Cell → ℕ → ℕ → Type 0
NoStartBack cells p k = (d : ℕ) → d < k → is_field_start cells (ring_back (length cells) p (d + 1)) ≡ false

no_unprotected : (x : Cell) → is_attribute x ≡ false → is_unprotected_attribute x ≡ false
no_unprotected (Field bits) none = absurd cc
no_unprotected (Char character) none = refl

and_false : (a b : Bool) → b ≡ false → (a && b) ≡ false
and_false true b none = none
and_false false b none = refl

-- no field starts where a character stands before
no_start : (cells : List Cell) (p q : ℕ) → ring_back (length cells) p 1 ≡ q → is_attribute (cell_at cells q) ≡ false → is_field_start cells p ≡ false
no_start cells p q before none =
    and_false (is_character (cell_at cells p)) _ (ap (λ z. is_unprotected_attribute (cell_at cells z)) before ∙ no_unprotected (cell_at cells q) none)

-- steps back, one after the other
pub back_sum : (n p a d : ℕ) → p < n → a + d ≤ n → ring_back n (ring_back n p a) d ≡ ring_back n p (a + d)
back_sum n p a d inside few =
    elim (back_cases n p a) [
      | inl x ↦ elim (back_cases n (ring_back n p a) d) [
        | inl y ↦ elim (back_cases n p (a + d)) [ inl z ↦ omega arith | inr z ↦ omega arith ]
        | inr y ↦ elim (back_cases n p (a + d)) [ inl z ↦ omega arith | inr z ↦ omega arith ]
      ]
      | inr x ↦ elim (back_cases n (ring_back n p a) d) [
        | inl y ↦ elim (back_cases n p (a + d)) [ inl z ↦ omega arith | inr z ↦ omega arith ]
        | inr y ↦ elim (back_cases n p (a + d)) [ inl z ↦ omega arith | inr z ↦ omega arith ]
      ]
    ]

-- the place two steps before p, and so many further: that of the attribute of the field start d + 1 steps before p
pub two_back : (n p d : ℕ) → p < n → d < n → ring_back n (ring_back n p (d + 1)) 1 ≡ ring_back n (ring_back n (ring_back n p 1) 1) d
two_back n p d inside few =
    let q : ℕ = ring_back n p 1 in
    let some : 0 < n = omega arith in
    let q_inside : q < n = back_lt n p 1 inside some (omega arith) in
    let one : 1 + d ≡ d + 1 = omega arith in
    ap (λ z. ring_back n z 1) (ap (ring_back n p) (sym one) ∙ sym (back_sum n p 1 d inside (omega arith)))
    ∙ back_sum n q d 1 q_inside (omega arith) ∙ ap (ring_back n q) (sym one) ∙ sym (back_sum n q 1 d q_inside (omega arith))

pub two_inside : (n p : ℕ) → p < n → ring_back n (ring_back n p 1) 1 < n
two_inside n p inside = back_lt n (ring_back n p 1) 1 (back_lt n p 1 inside (omega arith) (omega arith)) (omega arith) (omega arith)

-- where a search that went so far back stops
pub back_in : (n m p gone at run stop : ℕ) → p < n → gone + run ≤ n → m ≡ n → at ≡ ring_back n (ring_back n (ring_back n p 1) 1) gone → stop ≡ ring_back m at run
    → stop ≡ ring_back n (ring_back n (ring_back n p 1) 1) (gone + run)
back_in n m p gone at run stop inside few len here back =
    back ∙ ap (λ z. ring_back z at run) len ∙ ap (λ q. ring_back n q run) here ∙ back_sum n (ring_back n (ring_back n p 1) 1) gone run (two_inside n p inside) few

on_back : (n p : ℕ) → p < n → ring_on n (ring_back n p 1) 1 ≡ p
on_back n p inside =
    elim (back_cases n p 1) [
      | inl a ↦ elim (on_cases n (ring_back n p 1) 1) [ inl b ↦ omega arith | inr b ↦ omega arith ]
      | inr a ↦ elim (on_cases n (ring_back n p 1) 1) [ inl b ↦ omega arith | inr b ↦ omega arith ]
    ]

-- the position after it
pub start_place : (n m p k stop place : ℕ) → p < n → k < n → m ≡ n → stop ≡ ring_back n (ring_back n (ring_back n p 1) 1) k → place ≡ ring_on m stop 1
    → place ≡ ring_back n p (k + 1)
start_place n m p k stop place inside few len stands on =
    on ∙ ap (λ z. ring_on z stop 1) len ∙ ap (λ q. ring_on n q 1) (stands ∙ sym (two_back n p k inside few))
    ∙ on_back n (ring_back n p (k + 1)) (back_lt n p (k + 1) inside (omega arith) (omega arith))

pub home_place : (n m stop place : ℕ) → stop < n → m ≡ n → place ≡ ring_on m stop 1 → stop ≡ ring_back n place 1
home_place n m stop place inside len on = sym (place_before n m stop place inside len on)

pub back_run : (cells : List Cell) (p gone at run : ℕ) → p < length cells → gone + run ≤ length cells
    → at ≡ ring_back (length cells) (ring_back (length cells) (ring_back (length cells) p 1) 1) gone
    → AreBack cells at run → NoStartBack cells p gone → NoStartBack cells p (gone + run)
back_run cells p gone at run inside few here none misses d below =
    let n : ℕ = length cells in
    let q : ℕ = ring_back n (ring_back n p 1) 1 in
    elim (cases_lt d gone) [
      | inl early ↦ misses d early
      | inr late ↦
          let all : gone + (d - gone) ≡ d = omega arith in
          let q_inside : q < n = two_inside n p inside in
          let there : ring_back n at (d - gone) ≡ ring_back n q d = ap (λ z. ring_back n z (d - gone)) here ∙ back_sum n q gone (d - gone) q_inside (omega arith) ∙ ap (ring_back n q) all in
          no_start cells (ring_back n p (d + 1)) (ring_back n at (d - gone)) (two_back n p d inside (omega arith) ∙ sym there) (none (d - gone) (omega arith))
    ]

-- how far the search goes
pub are_back : (cells : List Cell) (n at most q steps run : ℕ) → n ≡ length cells → at < n → Some q ≡ attribute_before cells at → steps ≡ ring_distance n q at → run ≡ min steps most
    → AreBack cells at run
are_back cells n at most q steps run len inside nearest far is =
    let m : ℕ = length cells in
    elim (search_cases m (λ d. is_attribute (cell_at cells (ring_back m at d)))) [
      | inl found ↦
          let same : q ≡ ring_back m at found.0 = same_some _ _ (nearest ∙ sym (before_found cells m at found.0 (ring_back m at found.0) refl found.1.inside refl found.1.misses found.1.hit)) in
          let steps_is : steps ≡ found.0 = far ∙ ap (λ k. ring_distance k q at) len ∙ ap (λ z. ring_distance m z at) same ∙ distance_back m at found.0 (omega (arith, len)) found.1.inside in
          (λ d lt. found.1.misses d (omega (arith, steps_is)))
      | inr none ↦ let e = nearest ∙ sym (before_none cells m at refl none) in absurd cc
    ]

pub none_back : (cells : List Cell) (at most : ℕ) → most ≤ length cells → None ≡ attribute_before cells at → AreBack cells at most
none_back cells at most few nearest =
    let m : ℕ = length cells in
    elim (search_cases m (λ d. is_attribute (cell_at cells (ring_back m at d)))) [
      | inl found ↦ let e = nearest ∙ sym (before_found cells m at found.0 (ring_back m at found.0) refl found.1.inside refl found.1.misses found.1.hit) in absurd cc
      | inr none ↦ (λ d lt. none d (omega arith))
    ]

pub back_found : (cells : List Cell) (p k at : ℕ) → k < length cells → at ≡ ring_back (length cells) p (k + 1)
    → ((d : ℕ) → d < k → is_field_start cells (ring_back (length cells) p (d + 1)) ≡ false) → is_field_start cells at ≡ true → at ≡ start_back cells p
unfolding start_back
back_found cells p k at few here misses hit =
    let found : least (length cells) (λ d. is_field_start cells (ring_back (length cells) p (d + 1))) ≡ Some k =
    least_at (length cells) k (λ d. is_field_start cells (ring_back (length cells) p (d + 1))) few misses (ap (is_field_start cells) (sym here) ∙ hit) in
    here ∙ sym (ap (λ o. unwrap_or (option_map (λ d. ring_back (length cells) p (d + 1)) o) 0) found)

pub back_none : (cells : List Cell) (p : ℕ) → ((d : ℕ) → d < length cells → is_field_start cells (ring_back (length cells) p (d + 1)) ≡ false) → 0 ≡ start_back cells p
unfolding start_back
back_none cells p misses =
    sym (ap (λ o. unwrap_or (option_map (λ d. ring_back (length cells) p (d + 1)) o) 0)
    (least_none (length cells) (λ d. is_field_start cells (ring_back (length cells) p (d + 1))) misses))

-- ---- where the cursor settles
pub stop_found : (cells : List Cell) (p k at : ℕ) → k < length cells → at ≡ ring_on (length cells) p k
    → ((d : ℕ) → d < k → stops_cursor (cell_at cells (ring_on (length cells) p d)) ≡ false) → stops_cursor (cell_at cells at) ≡ true
    → settled cells p ≡ settled_at cells (Some at)
unfolding settled
stop_found cells p k at few here misses hit =
    let found : least (length cells) (λ d. stops_cursor (cell_at cells (ring_on (length cells) p d))) ≡ Some k =
    least_at (length cells) k (λ d. stops_cursor (cell_at cells (ring_on (length cells) p d))) few misses (ap (λ q. stops_cursor (cell_at cells q)) (sym here) ∙ hit) in
    ap (λ o. settled_at cells (option_map (ring_on (length cells) p) o)) found ∙ ap (λ q. settled_at cells (Some q)) (sym here)

pub stop_none : (cells : List Cell) (p : ℕ) → ((d : ℕ) → d < length cells → stops_cursor (cell_at cells (ring_on (length cells) p d)) ≡ false) → 0 ≡ settled cells p
unfolding settled
stop_none cells p misses =
    sym (ap (λ o. settled_at cells (option_map (ring_on (length cells) p) o)) (least_none (length cells) (λ d. stops_cursor (cell_at cells (ring_on (length cells) p d))) misses))

pub stops_there : (cells : List Cell) (at : ℕ) → is_character (cell_at cells at) ≡ true → settled_at cells (Some at) ≡ at
stops_there cells at is = cond-true (is_character (cell_at cells at)) _ _ is

pub goes_ahead : (cells : List Cell) (at : ℕ) → is_character (cell_at cells at) ≡ false → settled_at cells (Some at) ≡ start_ahead cells at
goes_ahead cells at is = cond-false (is_character (cell_at cells at)) _ _ is

-- the place after a step back
pub back_place : (n m p k at next : ℕ) → p < n → k < n → m ≡ n → at ≡ ring_back n p k → next ≡ ring_back m at 1 → next ≡ ring_back n p (k + 1)
back_place n m p k at next inside few len here back =
    back ∙ ap (λ z. ring_back z at 1) len ∙ ap (λ q. ring_back n q 1) here ∙ back_more n p k inside few
