-- The cursor is moved by Right.
use Rattle.std.proofs.Common.{◌≡◌, ℕ, zero, suc, ◌+◌, ◌<◌, ◌≤◌, false, [], ◌++◌, length, refl, sym, ◌∙◌, ap, arith, inl, inr, add-zero}
use Rattle.std.specs.Prelude.{replicate}
use Rattle.std.proofs.lemmas.List.{append-nil}
use Rattle.ds_screen.specs.declared.lock.Lock.{Lock}
use Rattle.ds_screen.specs.declared.lock.Lock.TheVariants.{Free, Waiting, Error}
use Rattle.ds_screen.specs.Picture.{Picture}
use Rattle.ds_screen.specs.Ring.{ring_on, ring_distance}
use Rattle.ds_screen.proofs.RingLaws.{on_more, on-zero, distance_cases}
use Rattle.ds_screen.proofs.RuledLaws.{on_distance}
use Rattle.ds_keys.specs.declared.key.Key.TheVariants.{Right}
use Rattle.ds_keys.specs.KeyRuns.{after_key, after}
use Rattle.ds_keys.specs.KeyStep.{step_of, step_under, free_step}
use Rattle.script_keys.specs.Laws.{MovesFree, MovesNothing, is_free}

abbrev at_place : Picture → ℕ → Picture
at_place v place = record v { cursor = place }

right_once : (v : Picture) → v.lock ≡ Free → after_key v Right ≡ at_place v (ring_on (length v.cells) v.cursor 1)
unfolding step_of free_step
right_once v free = ap (λ (lock : Lock). (step_under lock v Right).after) free

rights : (v : Picture) (c k d : ℕ) → v.lock ≡ Free → c < length v.cells → v.cursor ≡ ring_on (length v.cells) c k → k + d ≤ length v.cells
    → after v (replicate d Right) ≡ at_place v (ring_on (length v.cells) c (k + d))
unfolding after
rights v c k zero free inside at few = ap (at_place v) (at ∙ ap (ring_on (length v.cells) c) (sym (add-zero k)))
rights v c k (suc d) free inside at few =
    let n : ℕ = length v.cells in
    let less : k < n = omega arith in
    let here : after_key v Right ≡ at_place v (ring_on n c (k + 1)) =
    right_once v free ∙ ap (at_place v) (ap (λ p. ring_on n p 1) at ∙ on_more n c k inside less) in
    let regroup : (k + 1) + d ≡ k + suc d = omega arith in
    ap (λ (w : Picture). after w (replicate d Right)) here
    ∙ rights (at_place v (ring_on n c (k + 1))) c (k + 1) d free inside refl (omega arith)
    ∙ ap (λ m. at_place v (ring_on n c m)) regroup

distance_few : (n b p : ℕ) → b < n → p < n → ring_distance n b p ≤ n
distance_few n b p inside lt = elim (distance_cases n b p) [ inl d ↦ omega arith | inr d ↦ omega arith ]

pub moves_free : MovesFree
moves_free v place free inside there =
    let n : ℕ = length v.cells in
    let d : ℕ = ring_distance n v.cursor place in
    let few : d ≤ n = distance_few n v.cursor place inside there in
    let least : 0 + d ≤ n = omega arith in
    let alone : replicate d Right ++ [] ≡ replicate d Right = append-nil (replicate d Right) in
    let zeroed : 0 + d ≡ d = omega arith in
    ap (after v) alone ∙ rights v v.cursor 0 d free inside (sym (on-zero n v.cursor inside)) least
    ∙ ap (λ m. at_place v (ring_on n v.cursor m)) zeroed ∙ ap (at_place v) (on_distance n v.cursor place inside there)

locked_under : (lock : Lock) (v : Picture) → is_free lock ≡ false → (step_under lock v Right).after ≡ v
locked_under Free v locked = absurd (cc)
locked_under Waiting v locked = refl
locked_under Error v locked = refl

right_locked : (v : Picture) → is_free v.lock ≡ false → after_key v Right ≡ v
unfolding step_of
right_locked v locked = locked_under v.lock v locked

stays : (v : Picture) (d : ℕ) → is_free v.lock ≡ false → after v (replicate d Right) ≡ v
unfolding after
stays v zero locked = refl
stays v (suc d) locked = ap (λ (w : Picture). after w (replicate d Right)) (right_locked v locked) ∙ stays v d locked

pub moves_nothing : MovesNothing
moves_nothing v place locked =
    let d : ℕ = ring_distance (length v.cells) v.cursor place in
    let alone : replicate d Right ++ [] ≡ replicate d Right = append-nil (replicate d Right) in
    ap (after v) alone ∙ stays v d locked
