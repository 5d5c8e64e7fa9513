-- Erasing what is open, walking round the ring.
use Rattle.std.proofs.Common.{◌≡◌, ℕ, ◌<◌, ◌&&◌, ◌||◌, Bool, true, false, cond, ltb, eqb, List, length, refl, sym, ◌∙◌, ap, inl, inr}
use Rattle.std.proofs.lemmas.Bool.{cond-true, cond-false, cases_Bool, lt-ltb}
use Rattle.ds_codec.specs.declared.cell.Cell.{Cell}
use Rattle.ds_codec.specs.declared.cell.Cell.TheVariants.{Char}
use Rattle.ds_codec.specs.Character.{Glyph}
use Rattle.ds_screen.specs.Ring.{ring_distance}
use Rattle.ds_screen.specs.Picture.{blank, cell_at, ruled}
use Rattle.ds_screen.specs.Fields.{is_open}
use Rattle.ds_screen.specs.Orders.{is_reached, repeated_cell, erased_cell}
use Rattle.ds_screen.proofs.RuledLaws.{ruled_same, cell_at-ruled, walked_cell, distance_lt}
use Rattle.ds_screen.specs.Records.{unprotected_unmodified, cleared_cell}

-- a null in place of what is open
abbrev pub nulled_open : List Cell → ℕ → Cell
nulled_open cells p = cond (is_open cells p) blank (cell_at cells p)

-- so many steps reach the positions that the order names
pub reaches : (n b stop p reach : ℕ) → b < n → p < n → reach ≡ cond (eqb b stop) n (ring_distance n b stop)
    → ltb (ring_distance n b p) reach ≡ is_reached n b stop p
reaches n b stop p reach inside lt steps =
    elim (cases_Bool (eqb b stop)) [
      | inl same ↦
          ap (ltb (ring_distance n b p)) (steps ∙ cond-true (eqb b stop) n _ same) ∙ lt-ltb _ _ (distance_lt n b p inside lt)
          ∙ ap (λ t. t || ltb (ring_distance n b p) (ring_distance n b stop)) (sym same)
      | inr apart ↦
          ap (ltb (ring_distance n b p)) (steps ∙ cond-false (eqb b stop) n _ apart)
          ∙ ap (λ t. t || ltb (ring_distance n b p) (ring_distance n b stop)) (sym apart)
    ]

pub repeat_done : (cells : List Cell) (b stop reach : ℕ) (character : Glyph) → b < length cells → reach ≡ cond (eqb b stop) (length cells) (ring_distance (length cells) b stop)
    → ruled (length cells) (walked_cell cells b reach (λ p. Char character)) ≡ ruled (length cells) (repeated_cell cells b stop character)
unfolding repeated_cell
repeat_done cells b stop reach character inside steps =
    ruled_same (length cells) _ _ (λ p lt. ap (λ t. cond t (Char character) (cell_at cells p)) (reaches (length cells) b stop p reach inside lt steps))

both_tests : (a o : Bool) (x y : Cell) → cond a (cond o x y) y ≡ cond (a && o) x y
both_tests true o x y = refl
both_tests false o x y = refl

pub erase_done : (cells : List Cell) (b stop reach : ℕ) → b < length cells → reach ≡ cond (eqb b stop) (length cells) (ring_distance (length cells) b stop)
    → ruled (length cells) (walked_cell cells b reach (nulled_open cells)) ≡ ruled (length cells) (erased_cell cells b stop)
unfolding erased_cell
erase_done cells b stop reach inside steps =
    ruled_same (length cells) _ _ (λ p lt.
    ap (λ t. cond t (nulled_open cells p) (cell_at cells p)) (reaches (length cells) b stop p reach inside lt steps)
    ∙ both_tests (is_reached (length cells) b stop p) (is_open cells p) blank (cell_at cells p))

spared : (o : Bool) (c : Cell) → unprotected_unmodified (cond o blank c) ≡ cond o blank (unprotected_unmodified c)
spared true c = refl
spared false c = refl

-- erasing all that is open, and then resetting
pub clear_done : (cells middle after : List Cell) → middle ≡ ruled (length cells) (erased_cell cells 0 0) → length middle ≡ length cells
    → after ≡ ruled (length middle) (λ p. unprotected_unmodified (cell_at middle p)) → after ≡ ruled (length cells) (cleared_cell cells)
unfolding cleared_cell erased_cell
clear_done cells middle after erased len reset =
    reset ∙ ap (λ n. ruled n (λ p. unprotected_unmodified (cell_at middle p))) len
    ∙ ruled_same (length cells) (λ p. unprotected_unmodified (cell_at middle p)) (cleared_cell cells)
    (λ p lt. ap unprotected_unmodified (ap (λ xs. cell_at xs p) erased ∙ cell_at-ruled (length cells) (erased_cell cells 0 0) p lt) ∙ spared (is_open cells p) (cell_at cells p))
