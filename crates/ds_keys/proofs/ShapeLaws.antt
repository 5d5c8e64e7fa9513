-- The shape law: what a key keeps of each cell, and of the size.
use Rattle.std.proofs.Common.{◌≡◌, ℕ, suc, Bool, true, false, not, ◌==◌, cond, eqb, List, [], ◌∷◌, length, map, refl, sym, ◌∙◌, ap, subst, arith, inl, inr}
use Rattle.std.proofs.lemmas.Bool.{cond-true, cond-false, cases_Bool, false≢true, not-true, and_parts}
use Rattle.ds_codec.specs.declared.cell.Cell.{Cell}
use Rattle.ds_codec.specs.declared.cell.Cell.TheVariants.{Field, Char}
use Rattle.ds_codec.specs.declared.size.Size.{Size}
use Rattle.ds_codec.specs.Character.{is_graphic}
use Rattle.ds_screen.specs.declared.lock.Lock.{Lock}
use Rattle.ds_screen.specs.declared.lock.Lock.TheVariants.{Free, Waiting, Error}
use Rattle.ds_screen.specs.Picture.{Picture, blank, cell_at}
use Rattle.ds_screen.specs.Fields.{is_attribute, is_open}
use Rattle.ds_screen.specs.Records.{unprotected_unmodified, erased}
use Rattle.ds_keys.specs.declared.key.Key.{Key}
use Rattle.ds_keys.specs.declared.key.Key.TheVariants.{Typed, Left, Right, Up, Down, Tab, BackTab, NewLine, Home, EraseEof, EraseInput, Delete, Reset, Attention}
use Rattle.ds_keys.specs.KeyStep.{Step, sent, is_sending, typed_step, erase_eof_step, delete_step, attention_step, free_step, error_step, step_under, step_of}
use Rattle.ds_keys.specs.KeyRuns.{after_key, answer_of, after, is_sent, is_quiet, IsQuiet}
use Rattle.ds_keys.specs.Laws.{Keeps, is_clear}
use Rattle.ds_keys.specs.Shape.{form_of, Shape, KeyKeepsShape}
use Rattle.ds_keys.proofs.CellLaws.{open_parts, kind_kept}
use Rattle.ds_keys.proofs.KeepLaws.{key_keeps}

-- ---- forms
pub form_character : (x : Cell) → is_attribute x ≡ false → form_of x ≡ blank
form_character (Field bits) none = absurd cc
form_character (Char character) none = refl

form_reset : (x y : Cell) → is_attribute x ≡ is_attribute y → unprotected_unmodified x ≡ unprotected_unmodified y → form_of x ≡ form_of y
form_reset (Field a) (Field b) kinds same = same
form_reset (Field a) (Char d) kinds same = absurd cc
form_reset (Char c) (Field b) kinds same = absurd cc
form_reset (Char c) (Char d) kinds same = refl

pub kept_form : (before after : List Cell) (p : ℕ) → Keeps before after → form_of (cell_at after p) ≡ form_of (cell_at before p)
kept_form before after p k =
    elim (cases_Bool (is_open before p)) [
      | inl opens ↦
          form_character (cell_at after p) (not-true _ (k.open_stays p opens)) ∙ sym (form_character (cell_at before p) (not-true _ ((open_parts before p opens).0)))
      | inr shut ↦
          let same = k.closed p shut in
          form_reset (cell_at after p) (cell_at before p) (sym (kind_kept (cell_at after p)) ∙ ap is_attribute same ∙ kind_kept (cell_at before p)) same
    ]

-- lists of as many cells with the same forms
pub same_forms : (after before : List Cell) → length after ≡ length before → ((p : ℕ) → form_of (cell_at after p) ≡ form_of (cell_at before p)) → map form_of after ≡ map form_of before
same_forms [] [] n each = refl
same_forms [] (y ∷ ys) n each = absurd cc
same_forms (x ∷ xs) [] n each = absurd cc
same_forms (x ∷ xs) (y ∷ ys) n each =
    ap (λ z. z ∷ map form_of xs) (each 0) ∙ ap (λ l. form_of y ∷ l) (same_forms xs ys (let e : length xs ≡ length ys = omega (arith, n) in e) (λ p. each (suc p)))

-- ---- the size stays
abbrev Sized : Size → Step → Type 0
Sized size s = s.after.size ≡ size

either : (size : Size) (b : Bool) (s t : Step) → Sized size s → Sized size t → Sized size (cond b s t)
either size true s t a b = a
either size false s t a b = b

typed_sized : (v : Picture) (code : ℕ) → Sized v.size (typed_step v code)
unfolding typed_step
typed_sized v code = either v.size (is_graphic code) _ _ (either v.size (is_open v.cells v.cursor) _ _ refl refl) refl

eof_sized : (v : Picture) → Sized v.size (erase_eof_step v)
unfolding erase_eof_step
eof_sized v = either v.size (is_open v.cells v.cursor) _ _ refl refl

delete_sized : (v : Picture) → Sized v.size (delete_step v)
unfolding delete_step
delete_sized v = either v.size (is_open v.cells v.cursor) _ _ refl refl

attention_sized : (v : Picture) (aid : ℕ) → (aid == 0x6D) ≡ false → Sized v.size (attention_step v aid)
unfolding attention_step
attention_sized v aid other =
    either v.size (not (is_sending aid)) _ _ refl
    (subst (Sized v.size) (sym (cond-false (eqb aid 0x6D) (sent (erased v.geometry.default v) aid) (sent v aid) other)) refl)

free_sized : (v : Picture) (key : Key) → is_clear key ≡ false → Sized v.size (free_step v key)
unfolding free_step
free_sized v (Typed code) other = typed_sized v code
free_sized v Left other = refl
free_sized v Right other = refl
free_sized v Up other = refl
free_sized v Down other = refl
free_sized v Tab other = refl
free_sized v BackTab other = refl
free_sized v NewLine other = refl
free_sized v Home other = refl
free_sized v EraseEof other = eof_sized v
free_sized v EraseInput other = refl
free_sized v Delete other = delete_sized v
free_sized v Reset other = refl
free_sized v (Attention aid) other = attention_sized v aid other

error_sized : (v : Picture) (key : Key) → Sized v.size (error_step v key)
error_sized v Reset = refl
error_sized v key = refl

under_sized : (lock : Lock) (v : Picture) (key : Key) → is_clear key ≡ false → Sized v.size (step_under lock v key)
under_sized Free v key other = free_sized v key other
under_sized Waiting v key other = refl
under_sized Error v key other = error_sized v key

pub key_sized : (v : Picture) (key : Key) → is_clear key ≡ false → (after_key v key).size ≡ v.size
unfolding step_of
key_sized v key other = under_sized v.lock v key other

-- a key that sends nothing is no Clear, or is ignored
attention_quiet : (v : Picture) (aid : ℕ) → is_sent (attention_step v aid).pressed ≡ false → Sized v.size (attention_step v aid)
unfolding attention_step
attention_quiet v aid quiet =
    elim (cases_Bool (not (is_sending aid))) [
      | inl none ↦ subst (Sized v.size) (sym (cond-true (not (is_sending aid)) _ _ none)) refl
      | inr key ↦ elim (cases_Bool (eqb aid 0x6D)) [
        | inl clear ↦
            let is : attention_step v aid ≡ sent (erased v.geometry.default v) aid = cond-false (not (is_sending aid)) _ _ key ∙ cond-true (eqb aid 0x6D) _ _ clear in
            absurd (false≢true (sym quiet ∙ ap (λ (s : Step). is_sent s.pressed) is))
        | inr other ↦ attention_sized v aid other
      ]
    ]

free_quiet : (v : Picture) (key : Key) → is_sent (free_step v key).pressed ≡ false → Sized v.size (free_step v key)
unfolding free_step
free_quiet v (Attention aid) quiet = attention_quiet v aid quiet
free_quiet v (Typed code) quiet = typed_sized v code
free_quiet v Left quiet = refl
free_quiet v Right quiet = refl
free_quiet v Up quiet = refl
free_quiet v Down quiet = refl
free_quiet v Tab quiet = refl
free_quiet v BackTab quiet = refl
free_quiet v NewLine quiet = refl
free_quiet v Home quiet = refl
free_quiet v EraseEof quiet = eof_sized v
free_quiet v EraseInput quiet = refl
free_quiet v Delete quiet = delete_sized v
free_quiet v Reset quiet = refl

under_quiet : (lock : Lock) (v : Picture) (key : Key) → is_sent (step_under lock v key).pressed ≡ false → Sized v.size (step_under lock v key)
under_quiet Free v key quiet = free_quiet v key quiet
under_quiet Waiting v key quiet = refl
under_quiet Error v key quiet = error_sized v key

quiet_key_sized : (v : Picture) (key : Key) → is_sent (answer_of v key) ≡ false → (after_key v key).size ≡ v.size
unfolding step_of
quiet_key_sized v key quiet = under_quiet v.lock v key quiet

pub quiet_sized : (v : Picture) (keys : List Key) → IsQuiet v keys → (after v keys).size ≡ v.size
unfolding after is_quiet
quiet_sized v [] quiet = refl
quiet_sized v (key ∷ keys) quiet =
    let parts = and_parts (not (is_sent (answer_of v key))) (is_quiet (after_key v key) keys) quiet in
    quiet_sized (after_key v key) keys parts.1 ∙ quiet_key_sized v key (not-true (is_sent (answer_of v key)) parts.0)

-- ---- the law
shape_is : (size other : Size) (forms others : List Cell) → size ≡ other → forms ≡ others
    → ◌≡◌ {A = Shape} (record { size = size; forms = forms }) (record { size = other; forms = others })
shape_is size other forms others a b =
    ap (λ s. let t : Shape = record { size = s; forms = forms } in t) a ∙ ap (λ f. let t : Shape = record { size = other; forms = f } in t) b

pub key_keeps_shape : KeyKeepsShape
key_keeps_shape v key accepted other =
    let k : Keeps v.cells (after_key v key).cells = key_keeps v key accepted other in
    shape_is (after_key v key).size v.size (map form_of (after_key v key).cells) (map form_of v.cells) (key_sized v key other)
    (same_forms (after_key v key).cells v.cells k.whole (λ p. kept_form v.cells (after_key v key).cells p k))
