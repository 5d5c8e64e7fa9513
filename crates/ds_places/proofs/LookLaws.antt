-- How many looks a search by halving takes, and what each look says of the entries beside it.
use Rattle.std.proofs.Common.{◌≡◌, ℕ, zero, suc, ◌+◌, ◌*◌, ◌^◌, ◌<◌, ◌≤◌, List, length, get_or, sym, ◌∙◌, ap, arith, inl, inr}
use Rattle.std.proofs.Math.Nat.{pow-suc, mul-le-mul_left}
use Rattle.std.proofs.Math.Pow.{pow_mono}
use Rattle.std.proofs.lemmas.Bool.{cases_lt, cases_eq}
use Rattle.std.proofs.lemmas.List.{get_or_default}
use Rattle.ds_places.specs.Places.{IsRising}
use Rattle.ds_places.proofs.ListLaws.{rises_order}

-- half as wide, one look more
pub halved : (u w v n : ℕ) → 2 ^ u * w ≤ n → v + v ≤ w → 2 ^ (u + 1) * v ≤ n
halved u w v n wide half =
    let more : 2 ^ u * (v + v) ≤ 2 ^ u * w = mul-le-mul_left (2 ^ u) half in
    let step : 2 ^ (u + 1) * v ≡ 2 ^ u * (v + v) = twice u v in
    omega (arith, more, step, wide)
  where
    twice : (u v : ℕ) → 2 ^ (u + 1) * v ≡ 2 ^ u * (v + v)
    twice u v = let next : u + 1 ≡ suc u = omega arith in ap (λ k. 2 ^ k * v) next ∙ ap (λ x. x * v) (pow-suc 2 u) ∙ spread (2 ^ u) v
      where
        spread : (c v : ℕ) → c * 2 * v ≡ c * (v + v)
        spread zero v = omega arith
        spread (suc c) v = let more = spread c v in omega (arith, more)

-- as long as something is left, fewer looks than digits
pub looks_left : (u w n digits : ℕ) → 2 ^ u * w ≤ n → 0 < w → n < 2 ^ digits → u < digits
looks_left u w n digits wide some few =
    let one : 2 ^ u * 1 ≤ 2 ^ u * w = mul-le-mul_left (2 ^ u) some in
    elim (cases_lt u digits) [
      | inl lt ↦ lt
      | inr far ↦ let more : 2 ^ digits ≤ 2 ^ u = pow_mono far in omega (arith, more, one, wide, few)
    ]

module _ {T : Type 0} (place : T → ℕ) where
  -- up to an entry below q all are
  pub early_to : (xs : List T) (q middle : ℕ) (x : T) → IsRising place xs → middle < length xs → x ≡ get_or xs middle x → place x < q
      → (k : ℕ) (d : T) → k < middle + 1 → place (get_or xs k d) < q
  early_to xs q middle x rising lt is small k d below =
      let here : place (get_or xs middle d) ≡ place x = ap place (get_or_default xs middle d x lt ∙ sym is) in
      elim (cases_eq k middle) [
        | inl same ↦ omega (arith, small, here, ap (λ z. place (get_or xs z d)) same)
        | inr apart ↦ let less = rises_order place 0 xs rising k middle d (omega arith) lt in omega (arith, less, here, small)
      ]

  -- from an entry of q or more on all are
  pub late_from : (xs : List T) (q middle : ℕ) (x : T) → IsRising place xs → middle < length xs → x ≡ get_or xs middle x → q ≤ place x
      → (k : ℕ) (d : T) → middle ≤ k → k < length xs → q ≤ place (get_or xs k d)
  late_from xs q middle x rising within is large k d from lt =
      let here : place (get_or xs middle d) ≡ place x = ap place (get_or_default xs middle d x within ∙ sym is) in
      elim (cases_eq k middle) [
        | inl same ↦ omega (arith, large, here, ap (λ z. place (get_or xs z d)) same)
        | inr apart ↦ let less = rises_order place 0 xs rising middle k d (omega arith) lt in omega (arith, less, here, large)
      ]
