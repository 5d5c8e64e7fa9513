-- A character that is put at the cursor, by the step of a key.
use Rattle.std.proofs.Common.{◌≡◌, ℕ, ◌<◌, Bool, true, false, eqb, List, length, set, Option, Some, None, refl, sym, ◌∙◌, ap, subst}
use Rattle.std.proofs.lemmas.Bool.{cond-true, cond-false, ne_eqb, eq-eqb}
use Rattle.ds_codec.specs.declared.cell.Cell.{Cell}
use Rattle.ds_codec.specs.declared.cell.Cell.TheVariants.{Char}
use Rattle.ds_codec.specs.Character.{glyph, is_graphic}
use Rattle.ds_screen.specs.declared.lock.Lock.TheVariants.{Free}
use Rattle.ds_screen.specs.Picture.{Picture, ruled}
use Rattle.ds_screen.specs.Fields.{is_open}
use Rattle.ds_screen.proofs.RuledLaws.{set-ruled}
use Rattle.ds_keys.specs.declared.key.Key.TheVariants.{Typed, Tab}
use Rattle.ds_keys.specs.KeyStep.{inhibited, moved, typed_cell, typed_step, free_step, step_under, step_of}
use Rattle.ds_strokes.specs.Room.{readied}
use Rattle.ds_strokes.specs.Kept.{Readied}
use Rattle.ds_strokes.specs.StrokeStep.{goes_on, tabs, stored, stored_in, put_step}

-- ---- keys on a free keyboard

pub typed_free : (v : Picture) (code : ℕ) → v.lock ≡ Free → is_graphic code ≡ true → is_open v.cells v.cursor ≡ true
    → step_of v (Typed code) ≡ stored v code goes_on
unfolding step_of free_step typed_step
typed_free v code free graphic opens =
    ap (λ l. step_under l v (Typed code)) free
    ∙ cond-true (is_graphic code) _ _ graphic ∙ cond-true (is_open v.cells v.cursor) _ _ opens

pub tab_free : (v : Picture) → v.lock ≡ Free → step_of v Tab ≡ moved v (tabs v)
unfolding step_of free_step
tab_free v free = ap (λ l. step_under l v Tab) free

-- ---- a character takes the place of another

pub stored_over : (cells : List Cell) (c first code : ℕ) → c < length cells
    → set (ruled (length cells) (typed_cell cells c first)) c (Char (glyph code false)) ≡ ruled (length cells) (typed_cell cells c code)
unfolding typed_cell
stored_over cells c first code inside =
    set-ruled (length cells) (typed_cell cells c first) (typed_cell cells c code) c (Char (glyph code false)) inside
    (cond-true (eqb c c) _ _ (eq-eqb c c refl))
    (λ p lt apart. cond-false (eqb p c) _ _ (ne_eqb p c apart) ∙ sym (cond-false (eqb p c) _ _ (ne_eqb p c apart)))

-- ---- with room or without

ready_some : (o : Option Picture) (v w : Picture) → Readied o v true w → o ≡ Some w
ready_some None v w done = absurd (true_false done.0)
  where
    true_false : true ≡ false → ⊥
    true_false e = cc
ready_some (Some place) v w done = ap (λ x. Some x) (sym done.1)

ready_none : (o : Option Picture) (v w : Picture) → Readied o v false w → (o ≡ None) × (w ≡ v)
ready_none None v w done = (refl, done.1)
ready_none (Some place) v w done = absurd (false_true done.0)
  where
    false_true : false ≡ true → ⊥
    false_true e = cc

pub put_ready : (inserts made : Bool) (v w : Picture) (code : ℕ) (next : Picture → ℕ) → Readied (readied inserts v) v made w → made ≡ true → put_step inserts v code next ≡ stored w code next
unfolding put_step
put_ready inserts made v w code next done is =
    ap (λ o. stored_in v o code next) (ready_some (readied inserts v) v w (subst (λ b. Readied (readied inserts v) v b w) is done))

pub put_not : (inserts made : Bool) (v w : Picture) (code : ℕ) (next : Picture → ℕ) → Readied (readied inserts v) v made w → made ≡ false → inhibited w ≡ put_step inserts v code next
unfolding put_step
put_not inserts made v w code next done is =
    let both = ready_none (readied inserts v) v w (subst (λ b. Readied (readied inserts v) v b w) is done) in
    ap inhibited both.1 ∙ sym (ap (λ o. stored_in v o code next) both.0)
