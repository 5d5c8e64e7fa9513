-- Right so many times.
use Rattle.std.proofs.Common.{◌≡◌, ℕ, zero, suc, ◌+◌, ◌%◌, ◌<◌, length, replicate, refl, sym, ap, arith, ◌∙◌, inl, inr}
use Rattle.std.proofs.Math.Nat.{add-mod_left, mod-eq_of_lt}
use Rattle.ds_screen.specs.declared.lock.Lock.TheVariants.{Free, Waiting, Error}
use Rattle.ds_screen.specs.Ring.{ring_on}
use Rattle.ds_screen.specs.Picture.{Picture}
use Rattle.ds_screen.proofs.RingLaws.{on_cases, on_lt}
use Rattle.ds_keys.specs.declared.key.Key.TheVariants.{Right}
use Rattle.ds_keys.specs.KeyStep.{step_of, step_under, free_step}
use Rattle.ds_keys.specs.KeyRuns.{after, after_key}

-- the cursor at a position
abbrev put_at : Picture → ℕ → Picture
put_at v p = record v { cursor = p }

one_right : (v : Picture) → v.lock ≡ Free → after_key v Right ≡ put_at v (ring_on (length v.cells) v.cursor 1)
unfolding step_of free_step
one_right v free = ap (λ lock. (step_under lock v Right).after) free

round : (n c k : ℕ) → c < n → (ring_on n c 1 + k) % n ≡ (c + suc k) % n
round n c k inside =
    elim (on_cases n c 1) [
      | inl a ↦ let whole : ring_on n c 1 + k ≡ c + suc k = omega (arith, a.1) in ap (λ x. x % n) whole
      | inr a ↦
          let none : ring_on n c 1 + k ≡ k = omega (arith, a.1, a.0, inside) in
          let whole : n + k ≡ c + suc k = omega (arith, a.0, inside) in
          ap (λ x. x % n) none ∙ sym (add-mod_left n k) ∙ ap (λ x. x % n) whole
    ]

start : (n c : ℕ) → c < n → c ≡ (c + 0) % n
start n c inside = let none : c + 0 ≡ c = omega arith in sym (ap (λ x. x % n) none ∙ mod-eq_of_lt inside)

-- on a free keyboard, any number of times
rights_free : (v : Picture) (k : ℕ) → v.lock ≡ Free → v.cursor < length v.cells → after v (replicate k Right) ≡ put_at v ((v.cursor + k) % length v.cells)
unfolding after
rights_free v zero free inside = ap (put_at v) (start (length v.cells) v.cursor inside)
rights_free v (suc k) free inside =
    let n : ℕ = length v.cells in
    let next : ℕ = ring_on n v.cursor 1 in
    ap (λ w. after w (replicate k Right)) (one_right v free)
    ∙ rights_free (put_at v next) k free (on_lt n v.cursor 1 inside (omega (arith, inside)))
    ∙ ap (put_at v) (round n v.cursor k inside)

stays : (v : Picture) (k : ℕ) → after_key v Right ≡ v → after v (replicate k Right) ≡ v
unfolding after
stays v zero same = refl
stays v (suc k) same = ap (λ w. after w (replicate k Right)) same ∙ stays v k same

pub rights_waiting : (v : Picture) (k : ℕ) → v.lock ≡ Waiting → after v (replicate k Right) ≡ v
unfolding step_of
rights_waiting v k waiting = stays v k (ap (λ lock. (step_under lock v Right).after) waiting)

pub rights_error : (v : Picture) (k : ℕ) → v.lock ≡ Error → after v (replicate k Right) ≡ v
unfolding step_of
rights_error v k error = stays v k (ap (λ lock. (step_under lock v Right).after) error)

pub rights_put : (v new : Picture) (k c more n : ℕ) → v.lock ≡ Free → v.cursor < length v.cells → c ≡ v.cursor → more ≡ k → n ≡ length v.cells
    → new ≡ put_at v ((c + more) % n) → new ≡ after v (replicate k Right)
rights_put v new k c more n free inside at counts len puts =
    puts ∙ ap (λ x. put_at v ((x + more) % n)) at ∙ ap (λ x. put_at v ((v.cursor + x) % n)) counts ∙ ap (λ x. put_at v ((v.cursor + k) % x)) len
    ∙ sym (rights_free v k free inside)
