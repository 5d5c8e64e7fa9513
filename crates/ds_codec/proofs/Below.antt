-- A test of each number below another, by computing it.
use Rattle.std.proofs.Common.{◌≡◌, ℕ, zero, suc, ◌<◌, Bool, true, false, ◌&&◌, refl, ap, ◌∙◌, arith, inl, inr, ◌⊎◌}

abbrev pub passes_below : (ℕ → Bool) → ℕ → Bool
passes_below test zero = true
passes_below test (suc n) = test n && passes_below test n

pub both_true : (a b : Bool) → (a && b) ≡ true → (a ≡ true) × (b ≡ true)
both_true true b e = (refl, e)
both_true false b e = absurd cc

last_or_below : (i n : ℕ) → i < suc n → (i ≡ n) ⊎ (i < n)
last_or_below i n lt = grind arith

pub each_below : (test : ℕ → Bool) (n i : ℕ) → passes_below test n ≡ true → i < n → test i ≡ true
each_below test zero i e lt = absurd (omega arith)
each_below test (suc n) i e lt =
    let parts = both_true (test n) (passes_below test n) e in
    elim (last_or_below i n lt) [
      | inl same ↦ ap test same ∙ parts.0
      | inr below ↦ each_below test n i parts.1 below
    ]
