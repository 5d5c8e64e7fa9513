-- Which attribute is nearest.
use Rattle.std.proofs.Common.{◌≡◌, ℕ, zero, suc, ◌+◌, ◌<◌, ◌≤◌, true, false, List, length, Option, Some, None, refl, sym, ◌∙◌, ap, subst, arith, inl, inr, add-one}
use Rattle.std.specs.Option.{option_map, IfSome}
use Rattle.std.proofs.lemmas.Bool.{cases_lt, cases_Bool, false≢true}
use Rattle.ds_codec.specs.declared.cell.Cell.{Cell}
use Rattle.ds_codec.specs.declared.cell.Cell.TheVariants.{Field, Char}
use Rattle.ds_screen.specs.Ring.{ring_on, ring_back, least}
use Rattle.ds_screen.specs.Picture.{cell_at}
use Rattle.ds_screen.specs.Fields.{is_attribute, bits_of, bits_at, attribute_before, attribute_from, ruling_bits, ruling_after}
use Rattle.ds_screen.proofs.RingLaws.{least_at, least_none, back_cases, back-zero, search_cases}

pub before_found : (cells : List Cell) (n p d at : ℕ) → n ≡ length cells → d < n → at ≡ ring_back n p d
    → ((e : ℕ) → e < d → is_attribute (cell_at cells (ring_back n p e)) ≡ false) → is_attribute (cell_at cells at) ≡ true
    → Some at ≡ attribute_before cells p
unfolding attribute_before
before_found cells n p d at len lt here misses hit =
    let found : least n (λ e. is_attribute (cell_at cells (ring_back n p e))) ≡ Some d =
    least_at n d (λ e. is_attribute (cell_at cells (ring_back n p e))) lt misses (ap (λ q. is_attribute (cell_at cells q)) (sym here) ∙ hit) in
    let P : ℕ → Type 0 = λ m. Some at ≡ option_map (ring_back m p) (least m (λ e. is_attribute (cell_at cells (ring_back m p e)))) in
    subst P len (ap (λ q. Some q) here ∙ sym (ap (option_map (ring_back n p)) found))

pub before_none : (cells : List Cell) (n p : ℕ) → n ≡ length cells
    → ((e : ℕ) → e < n → is_attribute (cell_at cells (ring_back n p e)) ≡ false) → None ≡ attribute_before cells p
unfolding attribute_before
before_none cells n p len misses =
    let P : ℕ → Type 0 = λ m. None ≡ option_map (ring_back m p) (least m (λ e. is_attribute (cell_at cells (ring_back m p e)))) in
    subst P len (sym (ap (option_map (ring_back n p)) (least_none n _ misses)))

pub from_found : (cells : List Cell) (n p d at : ℕ) → n ≡ length cells → d < n → at ≡ ring_on n p d
    → ((e : ℕ) → e < d → is_attribute (cell_at cells (ring_on n p e)) ≡ false) → is_attribute (cell_at cells at) ≡ true
    → Some at ≡ attribute_from cells p
unfolding attribute_from
from_found cells n p d at len lt here misses hit =
    let found : least n (λ e. is_attribute (cell_at cells (ring_on n p e))) ≡ Some d =
    least_at n d (λ e. is_attribute (cell_at cells (ring_on n p e))) lt misses (ap (λ q. is_attribute (cell_at cells q)) (sym here) ∙ hit) in
    let P : ℕ → Type 0 = λ m. Some at ≡ option_map (ring_on m p) (least m (λ e. is_attribute (cell_at cells (ring_on m p e)))) in
    subst P len (ap (λ q. Some q) here ∙ sym (ap (option_map (ring_on n p)) found))

pub from_none : (cells : List Cell) (n p : ℕ) → n ≡ length cells
    → ((e : ℕ) → e < n → is_attribute (cell_at cells (ring_on n p e)) ≡ false) → None ≡ attribute_from cells p
unfolding attribute_from
from_none cells n p len misses =
    let P : ℕ → Type 0 = λ m. None ≡ option_map (ring_on m p) (least m (λ e. is_attribute (cell_at cells (ring_on m p e)))) in
    subst P len (sym (ap (option_map (ring_on n p)) (least_none n _ misses)))

-- a position that holds no attribute is ruled by what rules the position before it
back_steps : (n at d : ℕ) → at < n → d < n → ring_back n (ring_back n at 1) d ≡ ring_back n at (d + 1)
back_steps n at d inside few =
    elim (back_cases n at 1) [
      | inl a ↦ elim (back_cases n (ring_back n at 1) d) [
        | inl b ↦ elim (back_cases n at (d + 1)) [ inl c ↦ omega arith | inr c ↦ omega arith ]
        | inr b ↦ elim (back_cases n at (d + 1)) [ inl c ↦ omega arith | inr c ↦ omega arith ]
      ]
      | inr a ↦ elim (back_cases n (ring_back n at 1) d) [
        | inl b ↦ elim (back_cases n at (d + 1)) [ inl c ↦ omega arith | inr c ↦ omega arith ]
        | inr b ↦ elim (back_cases n at (d + 1)) [ inl c ↦ omega arith | inr c ↦ omega arith ]
      ]
    ]

round_back : (n at d : ℕ) → at < n → d + 1 ≡ n → ring_back n (ring_back n at 1) d ≡ at
round_back n at d inside all =
    back_steps n at d inside (omega arith)
    ∙ elim (back_cases n at (d + 1)) [ inl c ↦ omega arith | inr c ↦ omega arith ]

not_here : (cells : List Cell) (at e : ℕ) → at < length cells → is_attribute (cell_at cells at) ≡ false
    → ((d : ℕ) → d < e → is_attribute (cell_at cells (ring_back (length cells) (ring_back (length cells) at 1) d)) ≡ false)
    → e ≤ length cells → (d : ℕ) → d < e + 1 → d ≤ length cells → is_attribute (cell_at cells (ring_back (length cells) at d)) ≡ false
not_here cells at e inside here misses few zero below within = ap (λ q. is_attribute (cell_at cells q)) (back-zero (length cells) at) ∙ here
not_here cells at e inside here misses few (suc d) below within =
    ap (λ q. is_attribute (cell_at cells q)) (sym (back_steps (length cells) at d inside (omega arith) ∙ ap (ring_back (length cells) at) (add-one d))) ∙ misses d (omega arith)

pub before_back : (cells : List Cell) (at : ℕ) → at < length cells → is_attribute (cell_at cells at) ≡ false
    → attribute_before cells at ≡ attribute_before cells (ring_back (length cells) at 1)
before_back cells at inside here =
    let n : ℕ = length cells in
    let back : ℕ = ring_back n at 1 in
    elim (search_cases n (λ d. is_attribute (cell_at cells (ring_back n back d)))) [
      | inl found ↦
          elim (cases_lt (found.0 + 1) n) [
            | inl lt ↦
                sym (before_found cells n at (found.0 + 1) (ring_back n back found.0) refl lt (back_steps n at found.0 inside found.1.inside)
                (λ d below. not_here cells at found.0 inside here found.1.misses (omega (arith, found.1.inside)) d below (omega (arith, found.1.inside))) found.1.hit)
                ∙ before_found cells n back found.0 (ring_back n back found.0) refl found.1.inside refl found.1.misses found.1.hit
            | inr round ↦
                let last : found.0 + 1 ≡ n = omega (arith, found.1.inside) in
                let home : ring_back n back found.0 ≡ at = round_back n at found.0 inside last in
                absurd (false≢true (sym here ∙ ap (λ q. is_attribute (cell_at cells q)) (sym home) ∙ found.1.hit))
          ]
      | inr none ↦
          sym (before_none cells n at refl (λ d below. not_here cells at n inside here none (omega arith) d (omega arith) (omega arith)))
          ∙ before_none cells n back refl none
    ]

has_bits : (before : ℕ) (c : Cell) → is_attribute c ≡ true → bits_of c ≡ ruling_after before c
has_bits before (Field bits) some = refl
has_bits before (Char character) some = absurd cc

keeps_bits : (before : ℕ) (c : Cell) → is_attribute c ≡ false → before ≡ ruling_after before c
keeps_bits before (Field bits) none = absurd cc
keeps_bits before (Char character) none = refl

pub before_here : (cells : List Cell) (at : ℕ) → at < length cells → is_attribute (cell_at cells at) ≡ true → attribute_before cells at ≡ Some at
before_here cells at inside some =
    sym (before_found cells (length cells) at 0 at refl (omega arith) (sym (back-zero (length cells) at)) (λ e below. absurd (omega arith)) some)

pub ruling_more : (cells : List Cell) (at : ℕ) → at < length cells
    → ruling_bits cells at ≡ ruling_after (ruling_bits cells (ring_back (length cells) at 1)) (cell_at cells at)
ruling_more cells at inside =
    let before : ℕ = ruling_bits cells (ring_back (length cells) at 1) in
    elim (cases_Bool (is_attribute (cell_at cells at))) [
      | inl some ↦ ap (bits_at cells) (before_here cells at inside some) ∙ has_bits before (cell_at cells at) some
      | inr none ↦ ap (bits_at cells) (before_back cells at inside none) ∙ keeps_bits before (cell_at cells at) none
    ]

-- ---- what a search finds is an attribute
same_place : (a b : ℕ) → Some a ≡ Some b → a ≡ b
same_place a b e = cc

pub before_there : (cells : List Cell) (p q : ℕ) → Some q ≡ attribute_before cells p → is_attribute (cell_at cells q) ≡ true
before_there cells p q e =
    let n : ℕ = length cells in
    elim (search_cases n (λ d. is_attribute (cell_at cells (ring_back n p d)))) [
      | inl found ↦
          let at : ℕ = ring_back n p found.0 in
          ap (λ z. is_attribute (cell_at cells z)) (same_place q at (e ∙ sym (before_found cells n p found.0 at refl found.1.inside refl found.1.misses found.1.hit))) ∙ found.1.hit
      | inr none ↦ let both = e ∙ sym (before_none cells n p refl none) in cc
    ]

pub from_there : (cells : List Cell) (p q : ℕ) → Some q ≡ attribute_from cells p → is_attribute (cell_at cells q) ≡ true
from_there cells p q e =
    let n : ℕ = length cells in
    elim (search_cases n (λ d. is_attribute (cell_at cells (ring_on n p d)))) [
      | inl found ↦
          let at : ℕ = ring_on n p found.0 in
          ap (λ z. is_attribute (cell_at cells z)) (same_place q at (e ∙ sym (from_found cells n p found.0 at refl found.1.inside refl found.1.misses found.1.hit))) ∙ found.1.hit
      | inr none ↦ let both = e ∙ sym (from_none cells n p refl none) in cc
    ]

pub each_before_there : (cells : List Cell) (p : ℕ) (o : Option ℕ) → o ≡ attribute_before cells p → IfSome o (λ q. is_attribute (cell_at cells q) ≡ true)
each_before_there cells p None e = tt
each_before_there cells p (Some q) e = before_there cells p q e

pub each_from_there : (cells : List Cell) (p : ℕ) (o : Option ℕ) → o ≡ attribute_from cells p → IfSome o (λ q. is_attribute (cell_at cells q) ≡ true)
each_from_there cells p None e = tt
each_from_there cells p (Some q) e = from_there cells p q e
