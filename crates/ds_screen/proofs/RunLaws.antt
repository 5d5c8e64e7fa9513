-- A run of text, byte by byte.
use Rattle.std.proofs.Common.{◌≡◌, ℕ, zero, suc, ◌+◌, ◌%◌, ◌<◌, Bool, true, false, eqb, List, [], ◌∷◌, length, set, get_or, Some, refl, sym, ◌∙◌, ap, arith, inl, inr, add-one}
use Rattle.std.proofs.Math.Nat.{mod-add-mod, mod-eq_of_lt, mod_self}
use Rattle.std.specs.List.{list_all}
use Rattle.std.proofs.lemmas.Bool.{cond-true, cond-false, eq-eqb, ne_eqb, and_parts}
use Rattle.std.proofs.lemmas.Nat.{mod_below}
use Rattle.ds_codec.specs.declared.cell.Cell.{Cell}
use Rattle.ds_codec.specs.declared.cell.Cell.TheVariants.{Char}
use Rattle.ds_codec.specs.Character.{Glyph, glyph}
use Rattle.ds_screen.specs.Ring.{ring_on, greatest}
use Rattle.ds_screen.specs.Picture.{cell_at, ruled}
use Rattle.ds_screen.specs.Orders.{byte_cell, text_cell, single_cell}
use Rattle.ds_screen.proofs.RingLaws.{on_cases}
use Rattle.ds_screen.proofs.RuledLaws.{set-ruled, as_ruled}

pub mod_next : (n x : ℕ) → 0 < n → ring_on n (x % n) 1 ≡ (x + 1) % n
mod_next n x some =
    let small : x % n < n = mod_below x n some in
    elim (on_cases n (x % n) 1) [
      | inl a ↦ a.1 ∙ sym (mod-eq_of_lt a.0) ∙ mod-add-mod x n 1
      | inr a ↦
          let full : x % n + 1 ≡ n = omega arith in
          a.1 ∙ (omega arith) ∙ sym (mod_self n) ∙ ap (λ m. m % n) (sym full) ∙ mod-add-mod x n 1
    ]

-- what a position holds of the first k bytes
abbrev pub run_cell : List Cell → ℕ → List ℕ → ℕ → ℕ → Cell
run_cell cells b run k p = byte_cell cells run p (greatest k (λ i. eqb ((b + i) % length cells) p))

pub greatest_hit : (k : ℕ) (test : ℕ → Bool) → test k ≡ true → greatest (k + 1) test ≡ Some k
unfolding greatest
greatest_hit k test hit = rw add-one (cond-true (test k) _ _ hit)

pub greatest_miss : (k : ℕ) (test : ℕ → Bool) → test k ≡ false → greatest (k + 1) test ≡ greatest k test
unfolding greatest
greatest_miss k test miss = rw add-one (cond-false (test k) _ _ miss)

pub run_none : (cells : List Cell) (b : ℕ) (run : List ℕ) → cells ≡ ruled (length cells) (run_cell cells b run 0)
unfolding greatest
run_none cells b run = as_ruled cells (length cells) (run_cell cells b run 0) refl (λ p lt. refl)

pub run_more : (cells : List Cell) (b : ℕ) (run : List ℕ) (k : ℕ) → 0 < length cells
    → set (ruled (length cells) (run_cell cells b run k)) ((b + k) % length cells) (Char (glyph (get_or run k 0) false))
    ≡ ruled (length cells) (run_cell cells b run (k + 1))
run_more cells b run k some =
    let n : ℕ = length cells in
    let at : ℕ = (b + k) % n in
    set-ruled n (run_cell cells b run k) (run_cell cells b run (k + 1)) at (Char (glyph (get_or run k 0) false)) (mod_below (b + k) n some)
    (ap (byte_cell cells run at) (greatest_hit k (λ i. eqb ((b + i) % n) at) (eq-eqb at at refl)))
    (λ p lt apart. ap (byte_cell cells run p) (greatest_miss k (λ i. eqb ((b + i) % n) p) (ne_eqb at p (λ same. apart (sym same)))))

pub run_step : (cells : List Cell) (b : ℕ) (run : List ℕ) (k at : ℕ) (now after : List Cell) (character : Glyph) → 0 < length cells
    → at ≡ (b + k) % length cells → now ≡ ruled (length cells) (run_cell cells b run k) → character ≡ glyph (get_or run k 0) false
    → after ≡ set now at (Char character) → after ≡ ruled (length cells) (run_cell cells b run (k + 1))
run_step cells b run k at now after character some here stored is writes =
    writes ∙ ap (λ xs. set xs at (Char character)) stored ∙ ap (λ c. set (ruled (length cells) (run_cell cells b run k)) at (Char c)) is
    ∙ ap (λ q. set (ruled (length cells) (run_cell cells b run k)) q (Char (glyph (get_or run k 0) false))) here ∙ run_more cells b run k some

pub run_all : (cells : List Cell) (b : ℕ) (run : List ℕ) → ruled (length cells) (run_cell cells b run (length run)) ≡ ruled (length cells) (text_cell cells b run)
unfolding text_cell
run_all cells b run = refl

pub list_all_true : {X : Type 0} (p : X → Bool) (xs : List X) (i : ℕ) (d : X) → list_all p xs ≡ true → i < length xs → p (get_or xs i d) ≡ true
list_all_true p [] i d each lt = absurd (omega arith)
list_all_true p (x ∷ xs) zero d each lt = (and_parts (p x) (list_all p xs) each).0
list_all_true p (x ∷ xs) (suc i) d each lt = list_all_true p xs i d (and_parts (p x) (list_all p xs) each).1 (omega arith)

-- one cell
pub single_set : (cells : List Cell) (b : ℕ) (c : Cell) → b < length cells → set cells b c ≡ ruled (length cells) (single_cell cells b c)
unfolding single_cell
single_set cells b c lt =
    let base : cells ≡ ruled (length cells) (cell_at cells) = as_ruled cells (length cells) (cell_at cells) refl (λ p below. refl) in
    ap (λ xs. set xs b c) base
    ∙ set-ruled (length cells) (cell_at cells) (single_cell cells b c) b c lt (cond-true (eqb b b) _ _ (eq-eqb b b refl))
    (λ p below apart. cond-false (eqb p b) _ _ (ne_eqb p b apart))
