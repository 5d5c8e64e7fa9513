-- Keys of a demo, one after the other.
use Rattle.std.proofs.Common.{◌≡◌, ℕ, zero, suc, ◌+◌, List, [], ◌∷◌, ◌++◌, replicate, refl, sym, ap, subst, arith, ◌∙◌}
use Rattle.ds_codec.specs.Aid.{is_long_aid}
use Rattle.ds_screen.specs.declared.lock.Lock.{Lock}
use Rattle.ds_screen.specs.declared.lock.Lock.TheVariants.{Free, Waiting, Error}
use Rattle.ds_screen.specs.Picture.{Picture}
use Rattle.ds_screen.specs.Kept.{picture}
use Rattle.ds_keys.specs.declared.key.Key.{Key}
use Rattle.ds_keys.specs.declared.key.Key.TheVariants.{Typed, Right, Attention}
use Rattle.ds_keys.specs.KeyStep.{step_of, step_under, free_step, attention_step}
use Rattle.ds_keys.specs.KeyRuns.{after, after_key}
use Rattle.scr_check.specs.declared.finding.Demo.{Demo}
use Rattle.scr_check.specs.Demos.{demo_keys}
use Rattle.demo_screens.specs.declared.notes.Note.{Note}
use Rattle.demo_screens.specs.Notes.{undone, AreAlike, LeadBack}

-- keys in two parts
in_parts : (v : Picture) (keys others : List Key) → after v (keys ++ others) ≡ after (after v keys) others
unfolding after
in_parts v [] others = refl
in_parts v (key ∷ keys) others = in_parts (after_key v key) keys others

pub not_pressed : (v : Picture) (key : Key) → v ≡ after v (replicate 0 key)
unfolding after
not_pressed v key = refl

-- once more the same key
again : (v : Picture) (key : Key) (n : ℕ) → after_key (after v (replicate n key)) key ≡ after v (replicate (suc n) key)
unfolding after
again v key zero = refl
again v key (suc n) = again (after_key v key) key n

pub pressed_again : (v before next : Picture) (key : Key) (n : ℕ) → before ≡ after v (replicate n key) → next ≡ after_key before key → next ≡ after v (replicate (n + 1) key)
pressed_again v before next key n so is =
    let more : suc n ≡ n + 1 = omega arith in
    is ∙ ap (λ w. after_key w key) so ∙ again v key n ∙ ap (λ (m : ℕ). after v (replicate m key)) more

-- ---- keys that change no cell
abbrev pub SameCells : Picture → Picture → Type 0
SameCells v w = (w.geometry ≡ v.geometry) × (w.size ≡ v.size) × (w.cells ≡ v.cells)

same_twice : (u v w : Picture) → SameCells u v → SameCells v w → SameCells u w
same_twice u v w a b = (b.0 ∙ a.0, b.1 ∙ a.1, b.2 ∙ a.2)

one_right : (lock : Lock) (v : Picture) → v.lock ≡ lock → SameCells v (after_key v Right)
unfolding step_of free_step
one_right Free v is =
    let leaves = ap (λ lock. (step_under lock v Right).after) is in
    (ap (λ (w : Picture). w.geometry) leaves, ap (λ (w : Picture). w.size) leaves, ap (λ (w : Picture). w.cells) leaves)
one_right Waiting v is =
    let leaves = ap (λ lock. (step_under lock v Right).after) is in
    (ap (λ (w : Picture). w.geometry) leaves, ap (λ (w : Picture). w.size) leaves, ap (λ (w : Picture). w.cells) leaves)
one_right Error v is =
    let leaves = ap (λ lock. (step_under lock v Right).after) is in
    (ap (λ (w : Picture). w.geometry) leaves, ap (λ (w : Picture). w.size) leaves, ap (λ (w : Picture). w.cells) leaves)

pub rights_same : (v : Picture) (k : ℕ) → SameCells v (after v (replicate k Right))
unfolding after
rights_same v zero = (refl, refl, refl)
rights_same v (suc k) = same_twice v (after_key v Right) (after (after_key v Right) (replicate k Right)) (one_right v.lock v refl) (rights_same (after_key v Right) k)

one_enter : (lock : Lock) (v : Picture) → v.lock ≡ lock → SameCells v (after_key v (Attention 0x7D))
unfolding step_of free_step attention_step is_long_aid
one_enter Free v is =
    let leaves = ap (λ lock. (step_under lock v (Attention 0x7D)).after) is in
    (ap (λ (w : Picture). w.geometry) leaves, ap (λ (w : Picture). w.size) leaves, ap (λ (w : Picture). w.cells) leaves)
one_enter Waiting v is =
    let leaves = ap (λ lock. (step_under lock v (Attention 0x7D)).after) is in
    (ap (λ (w : Picture). w.geometry) leaves, ap (λ (w : Picture). w.size) leaves, ap (λ (w : Picture). w.cells) leaves)
one_enter Error v is =
    let leaves = ap (λ lock. (step_under lock v (Attention 0x7D)).after) is in
    (ap (λ (w : Picture). w.geometry) leaves, ap (λ (w : Picture). w.size) leaves, ap (λ (w : Picture). w.cells) leaves)

pub enter_same : (v : Picture) → SameCells v (after_key v (Attention 0x7D))
enter_same v = one_enter v.lock v refl

-- then notes lead back as before
pub back_same : (before v w : Picture) (notes : List Note) → SameCells v w → LeadBack before v notes → LeadBack before w notes
back_same before v w notes same back =
    record {
      geometry = same.0 ∙ back.geometry;
      size = same.1 ∙ back.size;
      cells = ap (λ xs. undone xs notes) same.2 ∙ back.cells;
      alike = subst (λ xs. AreAlike xs notes) (sym same.2) back.alike;
    }

-- ---- all keys of a demo
pub demo_pressed : (v moved typed next : Picture) (demo : Demo) → moved ≡ after v (replicate demo.rights Right)
    → typed ≡ after moved (replicate demo.types (Typed 0xC1)) → next ≡ after_key typed (Attention 0x7D) → next ≡ after v (demo_keys demo)
unfolding after
demo_pressed v moved typed next demo moves types enters =
    enters
    ∙ ap (λ w. after_key w (Attention 0x7D)) types
    ∙ sym (in_parts moved (replicate demo.types (Typed 0xC1)) (Attention 0x7D ∷ []))
    ∙ ap (λ w. after w (replicate demo.types (Typed 0xC1) ++ Attention 0x7D ∷ [])) moves
    ∙ sym (in_parts v (replicate demo.rights Right) (replicate demo.types (Typed 0xC1) ++ Attention 0x7D ∷ []))

-- ---- what is put back
pub none_noted : (v : Picture) → LeadBack v v []
none_noted v = record { geometry = refl; size = refl; cells = refl; alike = tt }

pub restored : (before now back moved freed last : Picture) (notes : List Note) (cursor : ℕ) (lock : Lock) (aid : ℕ) → LeadBack before now notes
    → back ≡ record now { cells = undone now.cells notes } → moved ≡ record back { cursor = cursor } → freed ≡ record moved { lock = lock } → last ≡ record freed { aid = aid }
    → cursor ≡ before.cursor → lock ≡ before.lock → aid ≡ before.aid → last ≡ before
restored before now back moved freed last notes cursor lock aid leads puts moves locks sets at locked sent =
    sets ∙ ap (λ (w : Picture). let u : Picture = record w { aid = aid } in u) (locks ∙ ap (λ (w : Picture). let u : Picture = record w { lock = lock } in u)
    (moves ∙ ap (λ (w : Picture). let u : Picture = record w { cursor = cursor } in u) puts))
    ∙ ap (λ g. picture g now.size (undone now.cells notes) cursor lock aid) leads.geometry
    ∙ ap (λ s. picture before.geometry s (undone now.cells notes) cursor lock aid) leads.size
    ∙ ap (λ xs. picture before.geometry before.size xs cursor lock aid) leads.cells
    ∙ ap (λ x. picture before.geometry before.size before.cells x lock aid) at
    ∙ ap (λ x. picture before.geometry before.size before.cells before.cursor x aid) locked
    ∙ ap (λ x. picture before.geometry before.size before.cells before.cursor before.lock x) sent
