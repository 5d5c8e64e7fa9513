-- Without insert mode a key does what it does as a key.
use Rattle.std.proofs.Common.{◌≡◌, ℕ, Bool, false, Some, None, refl, sym, ◌∙◌, ap, inl, inr}
use Rattle.std.proofs.lemmas.Bool.{cond-true, cond-false, cases_Bool}
use Rattle.ds_codec.specs.Character.{is_graphic}
use Rattle.ds_screen.specs.declared.lock.Lock.{Lock}
use Rattle.ds_screen.specs.declared.lock.Lock.TheVariants.{Free, Waiting, Error}
use Rattle.ds_screen.specs.Picture.{Picture}
use Rattle.ds_screen.specs.Fields.{is_open}
use Rattle.ds_keys.specs.declared.key.Key.{Key}
use Rattle.ds_keys.specs.declared.key.Key.TheVariants.{Typed, Left, Right, Up, Down, Tab, BackTab, NewLine, Home, EraseEof, EraseInput, Delete, Reset, Attention}
use Rattle.ds_keys.specs.declared.pressed.Pressed.{Pressed}
use Rattle.ds_keys.specs.KeyStep.{Step, step, ignored, inhibited, if_open, typed_step, free_step, step_of}
use Rattle.ds_keys.specs.KeyStep as keys
use Rattle.ds_strokes.specs.declared.stroke.Stroke.{Stroke}
use Rattle.ds_strokes.specs.declared.stroke.Stroke.TheVariants as stroke
use Rattle.ds_strokes.specs.StrokeStep.{Operating, goes_on, stored, stored_in, put_step, step_under, stroke_step, operating, after_stroke, StrokeStep, IsKey}

put_without : (v : Picture) (code : ℕ) → put_step false v code goes_on ≡ if_open v (stored v code goes_on)
unfolding put_step
put_without v code =
    elim (cases_Bool (is_open v.cells v.cursor)) [
      | inl opens ↦
          ap (λ o. stored_in v o code goes_on) (cond-true (is_open v.cells v.cursor) (Some v) None opens)
          ∙ sym (cond-true (is_open v.cells v.cursor) (stored v code goes_on) (inhibited v) opens)
      | inr shut ↦
          ap (λ o. stored_in v o code goes_on) (cond-false (is_open v.cells v.cursor) (Some v) None shut)
          ∙ sym (cond-false (is_open v.cells v.cursor) (stored v code goes_on) (inhibited v) shut)
    ]

typed_without : (v : Picture) (code : ℕ) → v.lock ≡ Free → step_under Free false v (stroke.Key (Typed code)) ≡ step_of v (Typed code)
unfolding step_of free_step typed_step
typed_without v code free =
    elim (cases_Bool (is_graphic code)) [
      | inl is ↦
          cond-true (is_graphic code) _ _ is ∙ put_without v code
          ∙ sym (ap (λ l. keys.step_under l v (Typed code)) free ∙ cond-true (is_graphic code) _ _ is)
      | inr none ↦
          cond-false (is_graphic code) _ _ none
          ∙ sym (ap (λ l. keys.step_under l v (Typed code)) free ∙ cond-false (is_graphic code) _ _ none)
    ]

under_without : (lock : Lock) (v : Picture) (key : Key) → v.lock ≡ lock → step_under lock false v (stroke.Key key) ≡ step_of v key
under_without Waiting v key is = refl
under_without Error v key is = refl
under_without Free v (Typed code) is = typed_without v code is
under_without Free v Left is = refl
under_without Free v Right is = refl
under_without Free v Up is = refl
under_without Free v Down is = refl
under_without Free v Tab is = refl
under_without Free v BackTab is = refl
under_without Free v NewLine is = refl
under_without Free v Home is = refl
under_without Free v EraseEof is = refl
under_without Free v EraseInput is = refl
under_without Free v Delete is = refl
under_without Free v Reset is = refl
under_without Free v (Attention aid) is = refl

key_without : (v : Picture) (key : Key) → stroke_step (operating v false) (stroke.Key key) ≡ step_of v key
unfolding stroke_step
key_without v key = under_without v.lock v key refl

pub without : (v after : Picture) (inserts : Bool) (s : Stroke) (pressed : Pressed) → inserts ≡ false → step after pressed ≡ stroke_step (operating v inserts) s
    → IsKey s (λ key. step after pressed ≡ step_of v key)
without v after inserts (stroke.Key key) pressed off same = same ∙ ap (λ b. stroke_step (operating v b) (stroke.Key key)) off ∙ key_without v key
without v after inserts stroke.Insert pressed off same = tt
without v after inserts stroke.Dup pressed off same = tt
without v after inserts stroke.FieldMark pressed off same = tt

pub struck_without : (o after : Operating) (s : Stroke) (pressed : Pressed) → o.inserts ≡ false → StrokeStep o s after pressed
    → IsKey s (λ key. step after.screen pressed ≡ step_of o.screen key)
struck_without o after s pressed off is =
    without o.screen after.screen o.inserts s pressed off
    (ap (λ (x : Operating). step x.screen pressed) is.after_it ∙ ap (step (after_stroke o s).screen) is.answered)

-- ---- by the lock
pub on_free : (v : Picture) (inserts : Bool) (s : Stroke) → v.lock ≡ Free → step_under Free inserts v s ≡ stroke_step (operating v inserts) s
unfolding stroke_step
on_free v inserts s is = ap (λ l. step_under l inserts v s) (sym is)

pub on_waiting : (v : Picture) (inserts : Bool) (s : Stroke) → v.lock ≡ Waiting → step_under Waiting inserts v s ≡ stroke_step (operating v inserts) s
unfolding stroke_step
on_waiting v inserts s is = ap (λ l. step_under l inserts v s) (sym is)

pub on_error : (v : Picture) (inserts : Bool) (s : Stroke) → v.lock ≡ Error → step_under Error inserts v s ≡ stroke_step (operating v inserts) s
unfolding stroke_step
on_error v inserts s is = ap (λ l. step_under l inserts v s) (sym is)
