-- The touched law: one equation for each stroke, and induction along the strokes.
use Rattle.std.proofs.Common.{◌≡◌, ℕ, ◌<◌, ◌⊎◌, ◌&&◌, ◌||◌, Bool, true, false, not, cond, eqb, List, [], ◌∷◌, ◌++◌, length, Option, Some, None, refl, sym, ◌∙◌, ap, inl, inr}
use Rattle.std.proofs.lemmas.Bool.{cond-false, cond_both, cases_lt, false≢true, not-true, and_parts, ne_eqb}
use Rattle.std.proofs.lemmas.List.{get_or_past}
use Rattle.ds_codec.specs.declared.cell.Cell.{Cell}
use Rattle.ds_codec.specs.declared.cell.Cell.TheVariants.{Field, Char}
use Rattle.ds_codec.specs.Attribute.{is_protected, is_modified}
use Rattle.ds_codec.specs.Character.{is_graphic}
use Rattle.ds_screen.specs.declared.lock.Lock.{Lock}
use Rattle.ds_screen.specs.declared.lock.Lock.TheVariants.{Free, Waiting, Error}
use Rattle.ds_screen.specs.Picture.{Picture, IsSound, blank, cell_at}
use Rattle.ds_screen.specs.Fields.{is_attribute, is_character, bits_of, attribute_before, is_at, governs, is_open}
use Rattle.ds_screen.proofs.RuledLaws.{cell_at-ruled}
use Rattle.ds_keys.specs.declared.key.Key.{Key}
use Rattle.ds_keys.specs.declared.key.Key.TheVariants.{Typed, Left, Right, Up, Down, Tab, BackTab, NewLine, Home, EraseEof, EraseInput, Delete, Reset, Attention}
use Rattle.ds_keys.specs.KeyStep.{Step, ignored, inhibited, modified, typed_cell}
use Rattle.ds_keys.specs.KeyRuns.{is_accepted, is_sent}
use Rattle.ds_keys.proofs.CellLaws.{open_parts, governor_open, marked_so, same_kind, same_protection, same_governs}
use Rattle.ds_keys.proofs.TouchLaws.{key_marks, edited_unprotected}
use Rattle.ds_strokes.specs.declared.stroke.Stroke.{Stroke}
use Rattle.ds_strokes.specs.declared.stroke.Stroke.TheVariants as stroke
use Rattle.ds_strokes.specs.Room.{readied}
use Rattle.ds_strokes.specs.StrokeStep.{Operating, goes_on, tabs, stored, stored_in, put_step, free_key_step, free_stroke_step, locked_stroke_step, step_under, stroke_step, after_stroke, stroke_answer}
use Rattle.ds_strokes.specs.StrokeRuns.{after_strokes, are_quiet}
use Rattle.ds_strokes.specs.Touched.{is_edit_stroke, is_erase_stroke, edits, clears, clears_nothing, WasModified, AreTouching}
use Rattle.ds_strokes.specs.Laws.{ModifiedIsTouched}
use Rattle.ds_strokes.proofs.ReadyLaws.{IsReady, ready_is}
use Rattle.ds_strokes.proofs.SoundLaws.{stroke_sound}
use Rattle.ds_strokes.proofs.StrokeLaws.{quiet_stroke_keeps}

-- ---- tests
and_yes : (a : Bool) → (a && true) ≡ a
and_yes true = refl
and_yes false = refl

and_no : (a : Bool) → (a && false) ≡ false
and_no true = refl
and_no false = refl

or_cases : (a b : Bool) → (a || b) ≡ true → (a ≡ true) ⊎ (b ≡ true)
or_cases true b is = inl refl
or_cases false b is = inr is

abbrev modified_at : List Cell → ℕ → Bool
modified_at cells q = is_modified (bits_of (cell_at cells q))

abbrev protected_at : List Cell → ℕ → Bool
protected_at cells q = is_protected (bits_of (cell_at cells q))

attribute_inside : (cells : List Cell) (q : ℕ) → is_attribute (cell_at cells q) ≡ true → q < length cells
attribute_inside cells q there =
    elim (cases_lt q (length cells)) [
      | inl lt ↦ lt
      | inr past ↦ absurd (false≢true (sym (ap is_attribute (get_or_past cells q blank past)) ∙ there))
    ]

modified_cell_so : (x : Cell) → is_attribute x ≡ true → is_modified (bits_of (modified x)) ≡ true
modified_cell_so (Field bits) there = marked_so bits
modified_cell_so (Char character) there = absurd cc

marked_so_at : (t : Bool) (x : Cell) → is_attribute x ≡ true → is_modified (bits_of (cond t (modified x) x)) ≡ (t || is_modified (bits_of x))
marked_so_at true x there = modified_cell_so x there
marked_so_at false x there = refl

-- ---- one stroke
-- what an attribute's modified data tag becomes by a step
abbrev Marks : Picture → Stroke → ℕ → Step → Type 0
Marks v s q made =
    modified_at made.after.cells q
    ≡ ((is_edit_stroke s && (is_accepted made.pressed && governs v.cells q v.cursor)) || (modified_at v.cells q && not ((is_erase_stroke s && is_accepted made.pressed) && not (protected_at v.cells q))))

-- a step that leaves the cells, of a stroke that is not accepted or changes no tag
marks_nothing : (v : Picture) (s : Stroke) (q : ℕ) (made : Step) → made.after.cells ≡ v.cells → (is_edit_stroke s && is_accepted made.pressed) ≡ false → (is_erase_stroke s && is_accepted made.pressed) ≡ false
    → Marks v s q made
marks_nothing v s q made same edits_no clears_no =
    ap (λ xs. modified_at xs q) same
    ∙ sym (ap (λ t. t || (modified_at v.cells q && not ((is_erase_stroke s && is_accepted made.pressed) && not (protected_at v.cells q)))) (grouped (is_edit_stroke s) (is_accepted made.pressed) (governs v.cells q v.cursor) edits_no)
    ∙ ap (λ t. modified_at v.cells q && not (t && not (protected_at v.cells q))) clears_no ∙ and_yes (modified_at v.cells q))
  where
    grouped : (a b c : Bool) → (a && b) ≡ false → (a && (b && c)) ≡ false
    grouped true true c e = absurd cc
    grouped true false c e = refl
    grouped false b c e = refl

attribute_apart : (cells : List Cell) (c q : ℕ) → is_open cells c ≡ true → is_attribute (cell_at cells q) ≡ true → q ≡ c → ⊥
attribute_apart cells c q opens there same = false≢true (sym (not-true _ ((open_parts cells c opens).0)) ∙ ap (λ z. is_attribute (cell_at cells z)) (sym same) ∙ there)

-- a character that was stored marks the governor of the place where it stands
stored_marks : (w : Picture) (code q : ℕ) (next : Picture → ℕ) → is_open w.cells w.cursor ≡ true → is_attribute (cell_at w.cells q) ≡ true
    → modified_at (stored w code next).after.cells q ≡ (governs w.cells q w.cursor || modified_at w.cells q)
unfolding typed_cell
stored_marks w code q next opens there =
    ap (λ x. is_modified (bits_of x))
    (cell_at-ruled (length w.cells) (typed_cell w.cells w.cursor code) q (attribute_inside w.cells q there)
    ∙ cond-false (eqb q w.cursor) _ _ (ne_eqb q w.cursor (attribute_apart w.cells w.cursor q opens there)))
    ∙ marked_so_at (is_at (attribute_before w.cells w.cursor) q) (cell_at w.cells q) there
    ∙ ap (λ t. (t && is_at (attribute_before w.cells w.cursor) q) || modified_at w.cells q) (sym ((open_parts w.cells w.cursor opens).0))

-- the same of the picture before room was made
ready_marks : (v w : Picture) (code q : ℕ) (next : Picture → ℕ) → IsReady v w → is_attribute (cell_at v.cells q) ≡ true
    → modified_at (stored w code next).after.cells q ≡ (governs v.cells q v.cursor || modified_at v.cells q)
ready_marks v w code q next r there =
    stored_marks w code q next r.opens_there (same_kind v.cells w.cells q r.keeps ∙ there)
    ∙ ap (λ c. governs w.cells q c || modified_at w.cells q) r.cursor
    ∙ ap (λ t. t || modified_at w.cells q) (same_governs v.cells w.cells q v.cursor r.keeps)
    ∙ ap (λ x. governs v.cells q v.cursor || is_modified (bits_of x)) (r.attributes q (attribute_inside v.cells q there) there)

in_place_marks : (v : Picture) (o : Option Picture) (s : Stroke) (code q : ℕ) (next : Picture → ℕ) → is_edit_stroke s ≡ true → is_erase_stroke s ≡ false
    → is_attribute (cell_at v.cells q) ≡ true → ((w : Picture) → o ≡ Some w → IsReady v w) → Marks v s q (stored_in v o code next)
in_place_marks v None s code q next edit erase there ready =
    marks_nothing v s q (inhibited v) refl (and_no (is_edit_stroke s)) (and_no (is_erase_stroke s))
in_place_marks v (Some w) s code q next edit erase there ready =
    ready_marks v w code q next (ready w refl) there
    ∙ sym (both (is_edit_stroke s) (is_erase_stroke s) (governs v.cells q v.cursor) (modified_at v.cells q) (protected_at v.cells q) edit erase)
  where
    both : (e x g m p : Bool) → e ≡ true → x ≡ false → ((e && (true && g)) || (m && not ((x && true) && not p))) ≡ (g || m)
    both true false g m p is none = ap (λ t. g || t) (and_yes m)
    both true true g m p is none = absurd cc
    both false x g m p is none = absurd cc

put_marks : (inserts : Bool) (v : Picture) (s : Stroke) (code q : ℕ) (next : Picture → ℕ) → IsSound v → is_edit_stroke s ≡ true → is_erase_stroke s ≡ false
    → is_attribute (cell_at v.cells q) ≡ true → Marks v s q (put_step inserts v code next)
unfolding put_step
put_marks inserts v s code q next sound edit erase there = in_place_marks v (readied inserts v) s code q next edit erase there (λ w is. ready_is inserts v w sound is)

typing_marks : (inserts : Bool) (v : Picture) (code q : ℕ) → IsSound v → is_attribute (cell_at v.cells q) ≡ true → Marks v (stroke.Key (Typed code)) q (free_key_step inserts v (Typed code))
typing_marks inserts v code q sound there =
    cond_both (is_graphic code) _ _ (Marks v (stroke.Key (Typed code)) q)
    (λ is. put_marks inserts v (stroke.Key (Typed code)) code q goes_on sound refl refl there)
    (λ none. marks_nothing v (stroke.Key (Typed code)) q (ignored v) refl refl refl)

free_key_marks : (inserts : Bool) (v : Picture) (key : Key) (q : ℕ) → IsSound v → is_attribute (cell_at v.cells q) ≡ true → is_sent (free_key_step inserts v key).pressed ≡ false
    → Marks v (stroke.Key key) q (free_key_step inserts v key)
free_key_marks inserts v (Typed code) q sound there quiet = typing_marks inserts v code q sound there
free_key_marks inserts v Left q sound there quiet = key_marks v Left q there quiet
free_key_marks inserts v Right q sound there quiet = key_marks v Right q there quiet
free_key_marks inserts v Up q sound there quiet = key_marks v Up q there quiet
free_key_marks inserts v Down q sound there quiet = key_marks v Down q there quiet
free_key_marks inserts v Tab q sound there quiet = key_marks v Tab q there quiet
free_key_marks inserts v BackTab q sound there quiet = key_marks v BackTab q there quiet
free_key_marks inserts v NewLine q sound there quiet = key_marks v NewLine q there quiet
free_key_marks inserts v Home q sound there quiet = key_marks v Home q there quiet
free_key_marks inserts v EraseEof q sound there quiet = key_marks v EraseEof q there quiet
free_key_marks inserts v EraseInput q sound there quiet = key_marks v EraseInput q there quiet
free_key_marks inserts v Delete q sound there quiet = key_marks v Delete q there quiet
free_key_marks inserts v Reset q sound there quiet = key_marks v Reset q there quiet
free_key_marks inserts v (Attention aid) q sound there quiet = key_marks v (Attention aid) q there quiet

free_marks : (inserts : Bool) (v : Picture) (s : Stroke) (q : ℕ) → IsSound v → is_attribute (cell_at v.cells q) ≡ true → is_sent (free_stroke_step inserts v s).pressed ≡ false
    → Marks v s q (free_stroke_step inserts v s)
free_marks inserts v (stroke.Key key) q sound there quiet = free_key_marks inserts v key q sound there quiet
free_marks inserts v stroke.Insert q sound there quiet = marks_nothing v stroke.Insert q (free_stroke_step inserts v stroke.Insert) refl refl refl
free_marks inserts v stroke.Dup q sound there quiet = put_marks inserts v stroke.Dup 0x1C q tabs sound refl refl there
free_marks inserts v stroke.FieldMark q sound there quiet = put_marks inserts v stroke.FieldMark 0x1E q goes_on sound refl refl there

locked_marks : (v : Picture) (s : Stroke) (q : ℕ) → is_attribute (cell_at v.cells q) ≡ true → is_sent (locked_stroke_step v s).pressed ≡ false → Marks v s q (locked_stroke_step v s)
locked_marks v (stroke.Key key) q there quiet = key_marks v key q there quiet
locked_marks v stroke.Insert q there quiet = marks_nothing v stroke.Insert q (ignored v) refl refl refl
locked_marks v stroke.Dup q there quiet = marks_nothing v stroke.Dup q (ignored v) refl refl refl
locked_marks v stroke.FieldMark q there quiet = marks_nothing v stroke.FieldMark q (ignored v) refl refl refl

under_marks : (lock : Lock) (inserts : Bool) (v : Picture) (s : Stroke) (q : ℕ) → IsSound v → is_attribute (cell_at v.cells q) ≡ true → is_sent (step_under lock inserts v s).pressed ≡ false
    → Marks v s q (step_under lock inserts v s)
under_marks Free inserts v s q sound there quiet = free_marks inserts v s q sound there quiet
under_marks Waiting inserts v s q sound there quiet = locked_marks v s q there quiet
under_marks Error inserts v s q sound there quiet = locked_marks v s q there quiet

-- what a stroke's equation says of the strokes after it
record StrokeTells (o : Operating) (s : Stroke) (q : ℕ) : Type 0 where
  marks : modified_at (after_stroke o s).screen.cells q ≡ (edits o s q || (modified_at o.screen.cells q && not (clears o s && not (protected_at o.screen.cells q))))
  protection : protected_at (after_stroke o s).screen.cells q ≡ protected_at o.screen.cells q

stroke_tells : (o : Operating) (s : Stroke) (q : ℕ) → IsSound o.screen → is_attribute (cell_at o.screen.cells q) ≡ true → is_sent (stroke_answer o s) ≡ false → StrokeTells o s q
unfolding stroke_step
stroke_tells o s q sound there quiet =
    record {
      marks = under_marks o.screen.lock o.inserts o.screen s q sound there quiet;
      protection = same_protection o.screen.cells (after_stroke o s).screen.cells q (quiet_stroke_keeps o s sound quiet);
    }

-- ---- an accepted edit stands in an unprotected field
abbrev Opens : Picture → Stroke → ℕ → Step → Type 0
Opens v s q made = (is_edit_stroke s && (is_accepted made.pressed && governs v.cells q v.cursor)) ≡ true → protected_at v.cells q ≡ false

governed_open : (v : Picture) (q : ℕ) → is_open v.cells v.cursor ≡ true → governs v.cells q v.cursor ≡ true → protected_at v.cells q ≡ false
governed_open v q opens is =
    governor_open v.cells v.cursor q opens (and_parts (is_character (cell_at v.cells v.cursor)) (is_at (attribute_before v.cells v.cursor) q) is).1

in_place_opens : (v : Picture) (o : Option Picture) (s : Stroke) (code q : ℕ) (next : Picture → ℕ) → ((w : Picture) → o ≡ Some w → IsReady v w) → Opens v s q (stored_in v o code next)
in_place_opens v None s code q next ready is = absurd (false≢true (sym (and_no (is_edit_stroke s)) ∙ is))
in_place_opens v (Some w) s code q next ready is =
    governed_open v q (ready w refl).opens (and_parts (is_edit_stroke s) (governs v.cells q v.cursor) is).1

put_opens : (inserts : Bool) (v : Picture) (s : Stroke) (code q : ℕ) (next : Picture → ℕ) → IsSound v → Opens v s q (put_step inserts v code next)
unfolding put_step
put_opens inserts v s code q next sound = in_place_opens v (readied inserts v) s code q next (λ w is. ready_is inserts v w sound is)

typing_opens : (inserts : Bool) (v : Picture) (code q : ℕ) → IsSound v → Opens v (stroke.Key (Typed code)) q (free_key_step inserts v (Typed code))
typing_opens inserts v code q sound =
    cond_both (is_graphic code) _ _ (Opens v (stroke.Key (Typed code)) q)
    (λ is. put_opens inserts v (stroke.Key (Typed code)) code q goes_on sound)
    (λ none is. absurd (false≢true is))

free_key_opens : (inserts : Bool) (v : Picture) (key : Key) (q : ℕ) → IsSound v → Opens v (stroke.Key key) q (free_key_step inserts v key)
free_key_opens inserts v (Typed code) q sound = typing_opens inserts v code q sound
free_key_opens inserts v Left q sound = edited_unprotected v Left q
free_key_opens inserts v Right q sound = edited_unprotected v Right q
free_key_opens inserts v Up q sound = edited_unprotected v Up q
free_key_opens inserts v Down q sound = edited_unprotected v Down q
free_key_opens inserts v Tab q sound = edited_unprotected v Tab q
free_key_opens inserts v BackTab q sound = edited_unprotected v BackTab q
free_key_opens inserts v NewLine q sound = edited_unprotected v NewLine q
free_key_opens inserts v Home q sound = edited_unprotected v Home q
free_key_opens inserts v EraseEof q sound = edited_unprotected v EraseEof q
free_key_opens inserts v EraseInput q sound = edited_unprotected v EraseInput q
free_key_opens inserts v Delete q sound = edited_unprotected v Delete q
free_key_opens inserts v Reset q sound = edited_unprotected v Reset q
free_key_opens inserts v (Attention aid) q sound = edited_unprotected v (Attention aid) q

free_opens : (inserts : Bool) (v : Picture) (s : Stroke) (q : ℕ) → IsSound v → Opens v s q (free_stroke_step inserts v s)
free_opens inserts v (stroke.Key key) q sound = free_key_opens inserts v key q sound
free_opens inserts v stroke.Insert q sound = λ is. absurd (false≢true is)
free_opens inserts v stroke.Dup q sound = put_opens inserts v stroke.Dup 0x1C q tabs sound
free_opens inserts v stroke.FieldMark q sound = put_opens inserts v stroke.FieldMark 0x1E q goes_on sound

locked_opens : (v : Picture) (s : Stroke) (q : ℕ) → Opens v s q (locked_stroke_step v s)
locked_opens v (stroke.Key key) q = edited_unprotected v key q
locked_opens v stroke.Insert q = λ is. absurd (false≢true is)
locked_opens v stroke.Dup q = λ is. absurd (false≢true is)
locked_opens v stroke.FieldMark q = λ is. absurd (false≢true is)

under_opens : (lock : Lock) (inserts : Bool) (v : Picture) (s : Stroke) (q : ℕ) → IsSound v → Opens v s q (step_under lock inserts v s)
under_opens Free inserts v s q sound = free_opens inserts v s q sound
under_opens Waiting inserts v s q sound = locked_opens v s q
under_opens Error inserts v s q sound = locked_opens v s q

stroke_unprotected : (o : Operating) (s : Stroke) (q : ℕ) → IsSound o.screen → edits o s q ≡ true → protected_at o.screen.cells q ≡ false
unfolding stroke_step
stroke_unprotected o s q sound = under_opens o.screen.lock o.inserts o.screen s q sound

-- ---- along the strokes
nothing_parts : (early : List Stroke) (s : Stroke) (late : List Stroke) → [] ≡ early ++ s ∷ late → ⊥
nothing_parts [] s late e = cc
nothing_parts (first ∷ early) s late e = cc

heads : (a b : Stroke) (xs ys : List Stroke) → a ∷ xs ≡ b ∷ ys → a ≡ b
heads a b xs ys e = cc

tails : (a b : Stroke) (xs ys : List Stroke) → a ∷ xs ≡ b ∷ ys → xs ≡ ys
tails a b xs ys e = cc

kept_lasts : (c p n : Bool) → not (c && not p) ≡ true → n ≡ true → (p ≡ true) ⊎ ((not c && n) ≡ true)
kept_lasts true true n kept last = inl refl
kept_lasts true false n kept last = absurd cc
kept_lasts false p n kept last = inr last

stays_protected : (e m c p : Bool) → m ≡ true → p ≡ true → (e || (m && not (c && not p))) ≡ true
stays_protected true m c p is shut = refl
stays_protected false true true true is shut = refl
stays_protected false true false true is shut = refl
stays_protected false true c false is shut = absurd cc
stays_protected false false c p is shut = absurd cc

stays_uncleared : (e m c p : Bool) → m ≡ true → c ≡ false → (e || (m && not (c && not p))) ≡ true
stays_uncleared true m c p is none = refl
stays_uncleared false true true p is none = absurd cc
stays_uncleared false true false p is none = refl
stays_uncleared false false c p is none = absurd cc

from_after : (o : Operating) (s : Stroke) (strokes : List Stroke) (q : ℕ) → IsSound o.screen → StrokeTells o s q → AreTouching (after_stroke o s) strokes q → AreTouching o (s ∷ strokes) q
unfolding after_strokes clears_nothing
from_after o s strokes q sound tells (inr ed) =
    inr (record { early = s ∷ ed.early; stroke = ed.stroke; late = ed.late; parts = ap (λ ks. s ∷ ks) ed.parts; edited = ed.edited; lasts = ed.lasts })
from_after o s strokes q sound tells (inl was) =
    elim (or_cases (edits o s q) (modified_at o.screen.cells q && not (clears o s && not (protected_at o.screen.cells q))) (sym tells.marks ∙ was.modified)) [
      | inl edit ↦ elim was.lasts [
        | inl shut ↦ absurd (false≢true (sym (stroke_unprotected o s q sound edit) ∙ sym tells.protection ∙ shut))
        | inr none ↦ inr (record { early = []; stroke = s; late = strokes; parts = refl; edited = edit; lasts = none })
      ]
      | inr kept ↦
          let parts = and_parts (modified_at o.screen.cells q) (not (clears o s && not (protected_at o.screen.cells q))) kept in
          inl (record {
            modified = parts.0;
            lasts = elim was.lasts [
              | inl shut ↦ inl (sym tells.protection ∙ shut)
              | inr none ↦ kept_lasts (clears o s) (protected_at o.screen.cells q) (clears_nothing (after_stroke o s) strokes) parts.1 none
            ];
          })
    ]

was_after : (o : Operating) (s : Stroke) (strokes : List Stroke) (q : ℕ) → StrokeTells o s q → WasModified o (s ∷ strokes) q → WasModified (after_stroke o s) strokes q
unfolding clears_nothing
was_after o s strokes q tells was =
    elim was.lasts [
      | inl shut ↦ record {
        modified = tells.marks ∙ stays_protected (edits o s q) (modified_at o.screen.cells q) (clears o s) (protected_at o.screen.cells q) was.modified shut;
        lasts = inl (tells.protection ∙ shut);
      }
      | inr none ↦
          let parts = and_parts (not (clears o s)) (clears_nothing (after_stroke o s) strokes) none in
          record {
            modified = tells.marks ∙ stays_uncleared (edits o s q) (modified_at o.screen.cells q) (clears o s) (protected_at o.screen.cells q) was.modified (not-true (clears o s) parts.0);
            lasts = inr parts.1;
          }
    ]

edited_after : (o : Operating) (s : Stroke) (strokes : List Stroke) (q : ℕ) → StrokeTells o s q → (early : List Stroke) (edit : Stroke) (late : List Stroke) → s ∷ strokes ≡ early ++ edit ∷ late
    → edits (after_strokes o early) edit q ≡ true → clears_nothing (after_stroke (after_strokes o early) edit) late ≡ true → AreTouching (after_stroke o s) strokes q
unfolding after_strokes
edited_after o s strokes q tells [] edit late parts edited lasts =
    let first : s ≡ edit = heads s edit strokes late parts in
    let rest : strokes ≡ late = tails s edit strokes late parts in
    let here : edits o s q ≡ true = ap (λ k. edits o k q) first ∙ edited in
    inl (record {
      modified = tells.marks ∙ ap (λ t. t || (modified_at o.screen.cells q && not (clears o s && not (protected_at o.screen.cells q)))) here;
      lasts = inr (ap (clears_nothing (after_stroke o s)) rest ∙ ap (λ k. clears_nothing (after_stroke o k) late) first ∙ lasts);
    })
edited_after o s strokes q tells (first ∷ early) edit late parts edited lasts =
    let same : s ≡ first = heads s first strokes (early ++ edit ∷ late) parts in
    inr (record {
      early = early;
      stroke = edit;
      late = late;
      parts = tails s first strokes (early ++ edit ∷ late) parts;
      edited = ap (λ k. edits (after_strokes (after_stroke o k) early) edit q) same ∙ edited;
      lasts = ap (λ k. clears_nothing (after_stroke (after_strokes (after_stroke o k) early) edit) late) same ∙ lasts;
    })

to_after : (o : Operating) (s : Stroke) (strokes : List Stroke) (q : ℕ) → StrokeTells o s q → AreTouching o (s ∷ strokes) q → AreTouching (after_stroke o s) strokes q
to_after o s strokes q tells (inl was) = inl (was_after o s strokes q tells was)
to_after o s strokes q tells (inr ed) = edited_after o s strokes q tells ed.early ed.stroke ed.late ed.parts ed.edited ed.lasts

pub touched_law : ModifiedIsTouched
unfolding after_strokes are_quiet clears_nothing
touched_law o [] q sound quiet there =
    (λ is. inl (record { modified = is; lasts = inr refl }), λ touched. elim touched [ inl was ↦ was.modified | inr ed ↦ absurd (nothing_parts ed.early ed.stroke ed.late ed.parts) ])
touched_law o (s ∷ strokes) q sound quiet there =
    let parts = and_parts (not (is_sent (stroke_answer o s))) (are_quiet (after_stroke o s) strokes) quiet in
    let silent : is_sent (stroke_answer o s) ≡ false = not-true (is_sent (stroke_answer o s)) parts.0 in
    let tells : StrokeTells o s q = stroke_tells o s q sound there silent in
    let later = touched_law (after_stroke o s) strokes q (stroke_sound o s sound) parts.1 (same_kind o.screen.cells (after_stroke o s).screen.cells q (quiet_stroke_keeps o s sound silent) ∙ there) in
    (λ is. from_after o s strokes q sound tells (later.0 is), λ touched. later.1 (to_after o s strokes q tells touched))
