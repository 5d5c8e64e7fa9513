-- Typing C1: what it leaves, and that it is undone.
use Rattle.std.proofs.Common.{◌≡◌, ◌≢◌, ℕ, ◌<◌, ◌⊎◌, ◌||◌, Bool, true, false, cond, eqb, List, [], ◌∷◌, ◌++◌, length, set, Some, None, unwrap_or, refl, sym, ◌∙◌, ap, subst, arith, inl, inr}
use Rattle.std.proofs.lemmas.Bool.{cond-true, cond-false, cases_Bool, cases_eq, cases_lt, eq-eqb, ne_eqb, eqb-true, false≢true}
use Rattle.std.proofs.lemmas.List.{set-get_or}
use Rattle.ds_codec.specs.declared.cell.Cell.{Cell}
use Rattle.ds_codec.specs.declared.cell.Cell.TheVariants.{Field, Char}
use Rattle.ds_codec.specs.Attribute.{is_modified}
use Rattle.ds_codec.specs.Character.{glyph}
use Rattle.ds_screen.specs.declared.lock.Lock.{Lock}
use Rattle.ds_screen.specs.declared.lock.Lock.TheVariants.{Free, Waiting, Error}
use Rattle.ds_screen.specs.Ring.{ring_on}
use Rattle.ds_screen.specs.Picture.{Picture, cell_at, ruled}
use Rattle.ds_screen.specs.Fields.{is_attribute, bits_of, attribute_before, is_at, is_open}
use Rattle.ds_screen.proofs.RuledLaws.{length-ruled, cell_at-ruled, as_ruled, set-ruled}
use Rattle.ds_inbound.specs.Answer.{is_modified_at}
use Rattle.ds_keys.specs.declared.key.Key.TheVariants.{Typed}
use Rattle.ds_keys.specs.Moves.{settled}
use Rattle.ds_keys.specs.KeyStep.{Step, modified, marked_cell, typed_cell, edited, inhibited, ignored, if_open, typed_step, free_step, step_under, step_of}
use Rattle.ds_keys.specs.KeyRuns.{after_key, answer_of, is_accepted}
use Rattle.ds_keys.proofs.CellLaws.{marked_so}
use Rattle.ds_places.specs.Places.{at_place, IsRising}
use Rattle.ds_screen.proofs.MarkLaws.{past_blank}
use Rattle.ds_keys.proofs.RunLaws.{mark_none}
use Rattle.ds_keys.proofs.EditLaws.{open_character, marked_character}
use Rattle.demo_screens.specs.declared.notes.Note.{Note}
use Rattle.demo_screens.specs.Modified.{modified_places}
use Rattle.demo_screens.specs.Notes.{note_of, undone, AreAlike, LeadBack}
use Rattle.demo_screens.proofs.NoteLaws.{SameKinds, undone_parts, alike_kept, alike_both}
use Rattle.demo_screens.proofs.ModifiedLaws.{itself, past_unmodified, modified_same, modified_more}

abbrev pub typed : Picture → Picture
typed v = after_key v (Typed 0xC1)

abbrev pub typed_cells : List Cell → ℕ → List Cell
typed_cells cells c = ruled (length cells) (typed_cell cells c 0xC1)

-- ---- what the key does
abbrev typing : Picture → Step
typing v = edited v (typed_cell v.cells v.cursor 0xC1) (settled v.cells (ring_on (length v.cells) v.cursor 1))

pub typed_free : (v : Picture) → v.lock ≡ Free → step_of v (Typed 0xC1) ≡ if_open v (typing v)
unfolding step_of free_step typed_step
typed_free v free = ap (λ lock. step_under lock v (Typed 0xC1)) free

pub typed_waiting : (v : Picture) → v.lock ≡ Waiting → step_of v (Typed 0xC1) ≡ ignored v
unfolding step_of
typed_waiting v waiting = ap (λ lock. step_under lock v (Typed 0xC1)) waiting

pub typed_error : (v : Picture) → v.lock ≡ Error → step_of v (Typed 0xC1) ≡ ignored v
unfolding step_of
typed_error v error = ap (λ lock. step_under lock v (Typed 0xC1)) error

by_lock : (lock : Lock) (v : Picture) → v.lock ≡ lock → (step_of v (Typed 0xC1) ≡ if_open v (typing v)) ⊎ (step_of v (Typed 0xC1) ≡ ignored v)
by_lock Free v is = inl (typed_free v is)
by_lock Waiting v is = inr (typed_waiting v is)
by_lock Error v is = inr (typed_error v is)

-- taken where it is open, else an error or nothing
abbrev TypedCases : Picture → Type 0
TypedCases v =
    ((is_open v.cells v.cursor ≡ true) × (step_of v (Typed 0xC1) ≡ typing v))
    ⊎ ((step_of v (Typed 0xC1) ≡ inhibited v) ⊎ (step_of v (Typed 0xC1) ≡ ignored v))

typed_cases : (v : Picture) → TypedCases v
typed_cases v =
    elim (by_lock v.lock v refl) [
      | inl free ↦ elim (cases_Bool (is_open v.cells v.cursor)) [
        | inl opens ↦ inl (opens, free ∙ cond-true (is_open v.cells v.cursor) (typing v) (inhibited v) opens)
        | inr shut ↦ inr (inl (free ∙ cond-false (is_open v.cells v.cursor) (typing v) (inhibited v) shut))
      ]
      | inr none ↦ inr (inr none)
    ]

pub accepted_free : (v : Picture) → v.lock ≡ Free → is_accepted (answer_of v (Typed 0xC1)) ≡ is_open v.cells v.cursor
accepted_free v free =
    ap (λ (s : Step). is_accepted s.pressed) (typed_free v free)
    ∙ elim (cases_Bool (is_open v.cells v.cursor)) [
      | inl opens ↦ ap (λ (s : Step). is_accepted s.pressed) (cond-true (is_open v.cells v.cursor) (typing v) (inhibited v) opens) ∙ sym opens
      | inr shut ↦ ap (λ (s : Step). is_accepted s.pressed) (cond-false (is_open v.cells v.cursor) (typing v) (inhibited v) shut) ∙ sym shut
    ]

pub accepted_waiting : (v : Picture) → v.lock ≡ Waiting → is_accepted (answer_of v (Typed 0xC1)) ≡ false
accepted_waiting v waiting = ap (λ (s : Step). is_accepted s.pressed) (typed_waiting v waiting)

pub accepted_error : (v : Picture) → v.lock ≡ Error → is_accepted (answer_of v (Typed 0xC1)) ≡ false
accepted_error v error = ap (λ (s : Step). is_accepted s.pressed) (typed_error v error)

pub typed_geometry : (v : Picture) → (typed v).geometry ≡ v.geometry
typed_geometry v =
    elim (typed_cases v) [
      | inl a ↦ ap (λ (s : Step). s.after.geometry) a.1
      | inr b ↦ elim b [ inl is ↦ ap (λ (s : Step). s.after.geometry) is | inr is ↦ ap (λ (s : Step). s.after.geometry) is ]
    ]

pub typed_size : (v : Picture) → (typed v).size ≡ v.size
typed_size v =
    elim (typed_cases v) [
      | inl a ↦ ap (λ (s : Step). s.after.size) a.1
      | inr b ↦ elim b [ inl is ↦ ap (λ (s : Step). s.after.size) is | inr is ↦ ap (λ (s : Step). s.after.size) is ]
    ]

-- what an accepted one leaves
pub accepted_open : (v : Picture) → is_accepted (answer_of v (Typed 0xC1)) ≡ true → (is_open v.cells v.cursor ≡ true) × ((typed v).cells ≡ typed_cells v.cells v.cursor)
accepted_open v accepted =
    elim (typed_cases v) [
      | inl a ↦ (a.0, ap (λ (s : Step). s.after.cells) a.1)
      | inr b ↦ elim b [
        | inl is ↦ absurd (false≢true (sym (ap (λ (s : Step). is_accepted s.pressed) is) ∙ accepted))
        | inr is ↦ absurd (false≢true (sym (ap (λ (s : Step). is_accepted s.pressed) is) ∙ accepted))
      ]
    ]

pub refused_cells : (v : Picture) → is_accepted (answer_of v (Typed 0xC1)) ≡ false → (typed v).cells ≡ v.cells
refused_cells v refused =
    elim (typed_cases v) [
      | inl a ↦ absurd (false≢true (sym refused ∙ ap (λ (s : Step). is_accepted s.pressed) a.1))
      | inr b ↦ elim b [ inl is ↦ ap (λ (s : Step). s.after.cells) is | inr is ↦ ap (λ (s : Step). s.after.cells) is ]
    ]

-- ---- the cells that it leaves
typed_here : (cells : List Cell) (c : ℕ) → typed_cell cells c 0xC1 c ≡ Char (glyph 0xC1 false)
unfolding typed_cell
typed_here cells c = cond-true (eqb c c) _ _ (eq-eqb c c refl)

typed_elsewhere : (cells : List Cell) (c p : ℕ) → p ≢ c → typed_cell cells c 0xC1 p ≡ marked_cell cells c p
unfolding typed_cell
typed_elsewhere cells c p apart = cond-false (eqb p c) _ _ (ne_eqb p c apart)

modified_kind : (x : Cell) → is_attribute (modified x) ≡ is_attribute x
modified_kind (Field bits) = refl
modified_kind (Char character) = refl

modified_so : (x : Cell) → is_attribute x ≡ true → is_modified (bits_of (modified x)) ≡ true
modified_so (Field bits) there = marked_so bits
modified_so (Char character) there = absurd (false≢true there)

marked_kind : (cells : List Cell) (c p : ℕ) → is_attribute (marked_cell cells c p) ≡ is_attribute (cell_at cells p)
marked_kind cells c p = either (is_at (attribute_before cells c) p) (cell_at cells p)
  where
    either : (t : Bool) (x : Cell) → is_attribute (cond t (modified x) x) ≡ is_attribute x
    either true x = modified_kind x
    either false x = refl

pub typed_kinds : (cells : List Cell) (c : ℕ) → is_open cells c ≡ true → SameKinds cells (typed_cells cells c)
typed_kinds cells c opens = (
  length-ruled (length cells) (typed_cell cells c 0xC1),
  λ p. elim (cases_lt p (length cells)) [
    | inl lt ↦
        ap is_attribute (cell_at-ruled (length cells) (typed_cell cells c 0xC1) p lt)
        ∙ elim (cases_eq p c) [
          | inl same ↦
              ap (λ q. is_attribute (typed_cell cells c 0xC1 q)) same ∙ ap is_attribute (typed_here cells c)
              ∙ sym (ap (λ q. is_attribute (cell_at cells q)) same ∙ open_character cells c opens)
          | inr apart ↦ ap is_attribute (typed_elsewhere cells c p apart) ∙ marked_kind cells c p
        ]
    | inr far ↦
        ap is_attribute (past_blank (typed_cells cells c) p (omega (arith, far, length-ruled (length cells) (typed_cell cells c 0xC1))))
        ∙ sym (ap is_attribute (past_blank cells p far))
  ],
)

-- the character that was there takes its place again, and then the attribute
back_here : (cells : List Cell) (c : ℕ) → c < length cells → is_open cells c ≡ true
    → set (typed_cells cells c) c (cell_at cells c) ≡ ruled (length cells) (marked_cell cells c)
back_here cells c inside opens =
    set-ruled (length cells) (typed_cell cells c 0xC1) (marked_cell cells c) c (cell_at cells c) inside
    (marked_character cells c c (open_character cells c opens)) (λ p lt apart. sym (typed_elsewhere cells c p apart))

back_field : (cells : List Cell) (c q : ℕ) → q < length cells → Some q ≡ attribute_before cells c
    → set (ruled (length cells) (marked_cell cells c)) q (cell_at cells q) ≡ cells
back_field cells c q inside found =
    set-ruled (length cells) (marked_cell cells c) (cell_at cells) q (cell_at cells q) inside refl
    (λ p lt apart. sym (ap (λ o. cond (is_at o p) (modified (cell_at cells p)) (cell_at cells p)) (sym found)
    ∙ cond-false (eqb q p) _ _ (ne_eqb q p (λ same. apart (sym same)))))
    ∙ sym (as_ruled cells (length cells) (cell_at cells) refl (λ p lt. refl))

pub undone_alone : (cells : List Cell) (c : ℕ) → c < length cells → is_open cells c ≡ true → None ≡ attribute_before cells c
    → undone (typed_cells cells c) (note_of cells c ∷ []) ≡ cells
undone_alone cells c inside opens none = back_here cells c inside opens ∙ sym (mark_none cells c none)

pub undone_both : (cells : List Cell) (c q : ℕ) → c < length cells → is_open cells c ≡ true → q < length cells → Some q ≡ attribute_before cells c
    → undone (typed_cells cells c) (note_of cells q ∷ note_of cells c ∷ []) ≡ cells
undone_both cells c q inside opens there found =
    ap (λ xs. set xs q (cell_at cells q)) (back_here cells c inside opens) ∙ back_field cells c q there found

-- ---- tags
pub typed_tags : (cells : List Cell) (c q : ℕ) → is_open cells c ≡ true → q < length cells → Some q ≡ attribute_before cells c → is_attribute (cell_at cells q) ≡ true
    → (p : ℕ) → is_modified_at (typed_cells cells c) p ≡ (eqb q p || is_modified_at cells p)
typed_tags cells c q opens there found attribute p =
    elim (cases_lt p (length cells)) [
      | inl lt ↦
          ap (λ x. is_modified (bits_of x)) (cell_at-ruled (length cells) (typed_cell cells c 0xC1) p lt)
          ∙ elim (cases_eq p c) [
            | inl same ↦
                let apart : q ≢ p = λ is. false≢true (sym (open_character cells c opens) ∙ ap (λ z. is_attribute (cell_at cells z)) (sym (is ∙ same)) ∙ attribute) in
                ap (λ z. is_modified (bits_of (typed_cell cells c 0xC1 z))) same ∙ ap (λ x. is_modified (bits_of x)) (typed_here cells c)
                ∙ sym (ap (λ t. t || is_modified_at cells p) (ne_eqb q p apart)
                ∙ ap (is_modified_at cells) same ∙ untagged (cell_at cells c) (open_character cells c opens))
            | inr apart ↦
                ap (λ x. is_modified (bits_of x)) (typed_elsewhere cells c p apart)
                ∙ ap (λ o. is_modified (bits_of (cond (is_at o p) (modified (cell_at cells p)) (cell_at cells p)))) (sym found)
                ∙ told (eqb q p) (λ is. ap (λ z. is_attribute (cell_at cells z)) (sym (eqb-true q p is)) ∙ attribute)
          ]
      | inr far ↦
          past_unmodified (typed_cells cells c) p (omega (arith, far, length-ruled (length cells) (typed_cell cells c 0xC1)))
          ∙ sym (ap (λ t. t || is_modified_at cells p) (ne_eqb q p (λ is. omega (arith, is, far, there))) ∙ past_unmodified cells p far)
    ]
  where
    untagged : (x : Cell) → is_attribute x ≡ false → is_modified (bits_of x) ≡ false
    untagged (Field bits) none = absurd (false≢true (sym none))
    untagged (Char character) none = refl

    told : (t : Bool) → (t ≡ true → is_attribute (cell_at cells p) ≡ true) → is_modified (bits_of (cond t (modified (cell_at cells p)) (cell_at cells p))) ≡ (t || is_modified_at cells p)
    told true here = modified_so (cell_at cells p) (here refl)
    told false here = refl

pub alone_tags : (cells : List Cell) (c : ℕ) → is_open cells c ≡ true → None ≡ attribute_before cells c
    → (p : ℕ) → is_modified_at (typed_cells cells c) p ≡ is_modified_at cells p
alone_tags cells c opens none p =
    elim (cases_lt p (length cells)) [
      | inl lt ↦
          ap (λ x. is_modified (bits_of x)) (cell_at-ruled (length cells) (typed_cell cells c 0xC1) p lt)
          ∙ elim (cases_eq p c) [
            | inl same ↦
                ap (λ z. is_modified (bits_of (typed_cell cells c 0xC1 z))) same ∙ ap (λ x. is_modified (bits_of x)) (typed_here cells c)
                ∙ sym (ap (is_modified_at cells) same ∙ untagged (cell_at cells c) (open_character cells c opens))
            | inr apart ↦
                ap (λ x. is_modified (bits_of x)) (typed_elsewhere cells c p apart)
                ∙ ap (λ o. is_modified (bits_of (cond (is_at o p) (modified (cell_at cells p)) (cell_at cells p)))) (sym none)
          ]
      | inr far ↦
          past_unmodified (typed_cells cells c) p (omega (arith, far, length-ruled (length cells) (typed_cell cells c 0xC1))) ∙ sym (past_unmodified cells p far)
    ]
  where
    untagged : (x : Cell) → is_attribute x ≡ false → is_modified (bits_of x) ≡ false
    untagged (Field bits) none = absurd (false≢true (sym none))
    untagged (Char character) none = refl

-- ---- the way back
-- from a picture that notes led back to, on to the next one, with the notes that lead back to it
led_on : (before v w : Picture) (notes more : List Note) → w.geometry ≡ v.geometry → w.size ≡ v.size → undone w.cells more ≡ v.cells → AreAlike w.cells more
    → SameKinds v.cells w.cells → LeadBack before v notes → LeadBack before w (notes ++ more)
led_on before v w notes more geometry size undoes alike kinds back =
    record {
      geometry = geometry ∙ back.geometry;
      size = size ∙ back.size;
      cells = undone_parts w.cells notes more ∙ ap (λ xs. undone xs notes) undoes ∙ back.cells;
      alike = alike_both w.cells notes more (alike_kept v.cells w.cells notes kinds back.alike) alike;
    }

-- what is noted where nothing has changed
pub back_noted : (before v : Picture) (notes : List Note) (p : ℕ) → p < length v.cells → LeadBack before v notes → LeadBack before v (notes ++ note_of v.cells p ∷ [])
back_noted before v notes p inside back =
    led_on before v v notes (note_of v.cells p ∷ []) refl refl (set-get_or v.cells p _) (inside, refl, tt) (refl, λ q. refl) back

pub back_alone : (before v : Picture) (notes : List Note) → v.cursor < length v.cells → is_accepted (answer_of v (Typed 0xC1)) ≡ true → None ≡ attribute_before v.cells v.cursor
    → LeadBack before v notes → LeadBack before (typed v) (notes ++ note_of v.cells v.cursor ∷ [])
back_alone before v notes inside accepted none back =
    let leaves = accepted_open v accepted in
    let more : List Note = note_of v.cells v.cursor ∷ [] in
    let kinds : SameKinds v.cells (typed v).cells = subst (SameKinds v.cells) (sym leaves.1) (typed_kinds v.cells v.cursor leaves.0) in
    led_on before v (typed v) notes more (typed_geometry v) (typed_size v) (ap (λ xs. undone xs more) leaves.1 ∙ undone_alone v.cells v.cursor inside leaves.0 none)
    (alike_kept v.cells (typed v).cells more kinds (inside, refl, tt)) kinds back

pub back_both : (before v : Picture) (notes : List Note) (q : ℕ) → v.cursor < length v.cells → is_accepted (answer_of v (Typed 0xC1)) ≡ true → q < length v.cells
    → Some q ≡ attribute_before v.cells v.cursor → LeadBack before v notes → LeadBack before (typed v) (notes ++ note_of v.cells q ∷ note_of v.cells v.cursor ∷ [])
back_both before v notes q inside accepted there found back =
    let leaves = accepted_open v accepted in
    let more : List Note = note_of v.cells q ∷ note_of v.cells v.cursor ∷ [] in
    let kinds : SameKinds v.cells (typed v).cells = subst (SameKinds v.cells) (sym leaves.1) (typed_kinds v.cells v.cursor leaves.0) in
    led_on before v (typed v) notes more (typed_geometry v) (typed_size v) (ap (λ xs. undone xs more) leaves.1 ∙ undone_both v.cells v.cursor q inside leaves.0 there found)
    (alike_kept v.cells (typed v).cells more kinds (there, refl, (inside, refl, tt))) kinds back

-- a key that isn't accepted changes no cell
pub back_refused : (before v : Picture) (notes : List Note) → is_accepted (answer_of v (Typed 0xC1)) ≡ false → LeadBack before v notes → LeadBack before (typed v) notes
back_refused before v notes refused back =
    let same = refused_cells v refused in
    record {
      geometry = typed_geometry v ∙ back.geometry;
      size = typed_size v ∙ back.size;
      cells = ap (λ xs. undone xs notes) same ∙ back.cells;
      alike = subst (λ xs. AreAlike xs notes) (sym same) back.alike;
    }

-- ---- the list of modified attributes
pub listed_more : (v : Picture) (xs ys : List ℕ) (q : ℕ) → is_accepted (answer_of v (Typed 0xC1)) ≡ true → q < length v.cells → Some q ≡ attribute_before v.cells v.cursor
    → is_attribute (cell_at v.cells q) ≡ true → xs ≡ modified_places v.cells → IsRising itself ys
    → ((p : ℕ) → at_place itself ys p ≡ cond (eqb q p) (Some (unwrap_or (at_place itself xs p) q)) (at_place itself xs p)) → ys ≡ modified_places (typed v).cells
listed_more v xs ys q accepted inside found there is rises added =
    let leaves = accepted_open v accepted in
    modified_more v.cells (typed_cells v.cells v.cursor) xs ys q is rises added (typed_tags v.cells v.cursor q leaves.0 inside found there) ∙ ap modified_places (sym leaves.1)

pub listed_alone : (v : Picture) (xs : List ℕ) → is_accepted (answer_of v (Typed 0xC1)) ≡ true → None ≡ attribute_before v.cells v.cursor → xs ≡ modified_places v.cells
    → xs ≡ modified_places (typed v).cells
listed_alone v xs accepted none is =
    let leaves = accepted_open v accepted in
    is ∙ modified_same v.cells (typed_cells v.cells v.cursor) (alone_tags v.cells v.cursor leaves.0 none) ∙ ap modified_places (sym leaves.1)

pub listed_refused : (v : Picture) (xs : List ℕ) → is_accepted (answer_of v (Typed 0xC1)) ≡ false → xs ≡ modified_places v.cells → xs ≡ modified_places (typed v).cells
listed_refused v xs refused is = is ∙ ap modified_places (sym (refused_cells v refused))
