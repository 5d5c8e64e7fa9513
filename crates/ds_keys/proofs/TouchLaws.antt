-- The touched law: one equation for each key, and induction along the keys.
use Rattle.std.proofs.Common.{◌≡◌, ℕ, ◌<◌, ◌⊎◌, ◌&&◌, ◌||◌, Bool, true, false, not, cond, eqb, ltb, leb, List, [], ◌∷◌, ◌++◌, length, refl, sym, ◌∙◌, ap, subst, inl, inr}
use Rattle.std.proofs.lemmas.Bool.{cond-true, cond-false, cond_both, cases_lt, cases_Bool, false≢true, not-true, and_parts, ne_eqb, leb-true, ltb-true}
use Rattle.std.proofs.lemmas.List.{get_or_past}
use Rattle.ds_codec.specs.declared.cell.Cell.{Cell}
use Rattle.ds_codec.specs.declared.cell.Cell.TheVariants.{Field, Char}
use Rattle.ds_codec.specs.Attribute.{is_protected, is_modified}
use Rattle.ds_codec.specs.Character.{is_graphic}
use Rattle.ds_screen.specs.declared.lock.Lock.{Lock}
use Rattle.ds_screen.specs.declared.lock.Lock.TheVariants.{Free, Waiting, Error}
use Rattle.ds_screen.specs.Picture.{Picture, blank, cell_at, ruled}
use Rattle.ds_screen.specs.Fields.{is_attribute, is_character, bits_of, attribute_before, is_at, governs, is_open}
use Rattle.ds_screen.specs.Records.{unprotected_unmodified, erased, cleared_cell}
use Rattle.ds_screen.proofs.RuledLaws.{cell_at-ruled}
use Rattle.ds_keys.specs.declared.key.Key.{Key}
use Rattle.ds_keys.specs.declared.key.Key.TheVariants.{Typed, Left, Right, Up, Down, Tab, BackTab, NewLine, Home, EraseEof, EraseInput, Delete, Reset, Attention}
use Rattle.ds_keys.specs.KeyStep.{Step, is_sending, ignored, inhibited, sent, modified, marked_cell, typed_cell, is_in_rest, end_erased_cell, run_end, deleted_cell, typed_step, erase_eof_step, delete_step, erase_input_step, attention_step, free_step, error_step, step_under, step_of}
use Rattle.ds_keys.specs.KeyRuns.{after_key, answer_of, after, is_accepted, is_sent, is_quiet}
use Rattle.ds_keys.specs.Touched.{is_edit, is_erase_input, edits, clears, clears_nothing, WasModified, IsTouched}
use Rattle.ds_keys.specs.Laws.{Keeps, ModifiedIsTouched}
use Rattle.ds_keys.proofs.CellLaws.{open_parts, governor_open, marked_so, reset_so, same_kind, same_protection}
use Rattle.ds_keys.proofs.KeepLaws.{rest_open, run_characters, quiet_key_keeps}

-- ---- tests
and_yes : (a : Bool) → (a && true) ≡ a
and_yes true = refl
and_yes false = refl

and_no : (a : Bool) → (a && false) ≡ false
and_no true = refl
and_no false = refl

or_no : (a : Bool) → (a || false) ≡ a
or_no true = refl
or_no false = refl

or_cases : (a b : Bool) → (a || b) ≡ true → (a ≡ true) ⊎ (b ≡ true)
or_cases true b is = inl refl
or_cases false b is = inr is

-- ---- the cell of an attribute
attribute_inside : (cells : List Cell) (q : ℕ) → is_attribute (cell_at cells q) ≡ true → q < length cells
attribute_inside cells q there =
    elim (cases_lt q (length cells)) [
      | inl lt ↦ lt
      | inr past ↦ absurd (false≢true (sym (ap is_attribute (get_or_past cells q blank past)) ∙ there))
    ]

attribute_shut : (cells : List Cell) (q : ℕ) → is_attribute (cell_at cells q) ≡ true → is_open cells q ≡ false
attribute_shut cells q there =
    elim (cases_Bool (is_open cells q)) [
      | inl opens ↦ absurd (false≢true (sym (not-true _ ((open_parts cells q opens).0)) ∙ there))
      | inr shut ↦ shut
    ]

abbrev modified_at : List Cell → ℕ → Bool
modified_at cells q = is_modified (bits_of (cell_at cells q))

abbrev protected_at : List Cell → ℕ → Bool
protected_at cells q = is_protected (bits_of (cell_at cells q))

modified_cell_so : (x : Cell) → is_attribute x ≡ true → is_modified (bits_of (modified x)) ≡ true
modified_cell_so (Field bits) there = marked_so bits
modified_cell_so (Char character) there = absurd cc

marked_so_at : (t : Bool) (x : Cell) → is_attribute x ≡ true → is_modified (bits_of (cond t (modified x) x)) ≡ (t || is_modified (bits_of x))
marked_so_at true x there = modified_cell_so x there
marked_so_at false x there = refl

reset_cell_so : (x : Cell) → is_attribute x ≡ true
    → is_modified (bits_of (unprotected_unmodified x)) ≡ (is_modified (bits_of x) && not (not (is_protected (bits_of x))))
reset_cell_so (Char character) there = absurd cc
reset_cell_so (Field bits) there = elim (cases_Bool (is_protected bits)) [
  | inl shut ↦ ap is_modified (cond-true (is_protected bits) _ _ shut) ∙ sym (ap (λ t. is_modified bits && not (not t)) shut ∙ and_yes (is_modified bits))
  | inr opens ↦ ap is_modified (cond-false (is_protected bits) _ _ opens) ∙ reset_so bits ∙ sym (ap (λ t. is_modified bits && not (not t)) opens ∙ and_no (is_modified bits))
]

-- ---- one key
-- what an attribute's modified data tag becomes by a step
abbrev Marks : Picture → Key → ℕ → Step → Type 0
Marks v key q s =
    modified_at s.after.cells q
    ≡ ((is_edit key && (is_accepted s.pressed && governs v.cells q v.cursor)) || (modified_at v.cells q && not ((is_erase_input key && is_accepted s.pressed) && not (protected_at v.cells q))))

-- a step that leaves the cells, of a key that is not accepted or changes no tag
marks_nothing : (v : Picture) (key : Key) (q : ℕ) (s : Step) → s.after.cells ≡ v.cells → (is_edit key && is_accepted s.pressed) ≡ false → (is_erase_input key && is_accepted s.pressed) ≡ false
    → Marks v key q s
marks_nothing v key q s same edits_no clears_no =
    ap (λ xs. modified_at xs q) same
    ∙ sym (ap (λ t. t || (modified_at v.cells q && not ((is_erase_input key && is_accepted s.pressed) && not (protected_at v.cells q)))) (grouped (is_edit key) (is_accepted s.pressed) (governs v.cells q v.cursor) edits_no)
    ∙ ap (λ t. modified_at v.cells q && not (t && not (protected_at v.cells q))) clears_no ∙ and_yes (modified_at v.cells q))
  where
    grouped : (a b c : Bool) → (a && b) ≡ false → (a && (b && c)) ≡ false
    grouped true true c e = absurd cc
    grouped true false c e = refl
    grouped false b c e = refl

-- a step of a key that edits, by a rule that marks the cursor's governor
marks_edit : (cells : List Cell) (c q : ℕ) (rule : ℕ → Cell) → is_open cells c ≡ true → is_attribute (cell_at cells q) ≡ true → rule q ≡ marked_cell cells c q
    → modified_at (ruled (length cells) rule) q ≡ (governs cells q c || (modified_at cells q && true))
marks_edit cells c q rule opens there says =
    ap (λ x. is_modified (bits_of x)) (cell_at-ruled (length cells) rule q (attribute_inside cells q there) ∙ says)
    ∙ marked_so_at (is_at (attribute_before cells c) q) (cell_at cells q) there
    ∙ ap (λ t. (t && is_at (attribute_before cells c) q) || modified_at cells q) (sym ((open_parts cells c opens).0))
    ∙ ap (λ t. governs cells q c || t) (sym (and_yes (modified_at cells q)))

attribute_apart : (cells : List Cell) (c q : ℕ) → is_open cells c ≡ true → is_attribute (cell_at cells q) ≡ true → q ≡ c → ⊥
attribute_apart cells c q opens there same = false≢true (sym (not-true _ ((open_parts cells c opens).0)) ∙ ap (λ z. is_attribute (cell_at cells z)) (sym same) ∙ there)

typed_says : (cells : List Cell) (c code q : ℕ) → is_open cells c ≡ true → is_attribute (cell_at cells q) ≡ true → typed_cell cells c code q ≡ marked_cell cells c q
unfolding typed_cell
typed_says cells c code q opens there = cond-false (eqb q c) _ _ (ne_eqb q c (attribute_apart cells c q opens there))

erased_says : (cells : List Cell) (c q : ℕ) → is_open cells c ≡ true → is_attribute (cell_at cells q) ≡ true → end_erased_cell cells c q ≡ marked_cell cells c q
unfolding end_erased_cell
erased_says cells c q opens there =
    elim (cases_Bool (is_in_rest cells c (attribute_before cells c) q)) [
      | inl rest ↦ absurd (false≢true (sym (attribute_shut cells q there) ∙ rest_open cells c q (attribute_inside cells q there) opens rest))
      | inr apart ↦ cond-false (is_in_rest cells c (attribute_before cells c) q) _ _ apart
    ]

deleted_says : (cells : List Cell) (cols c q : ℕ) → is_attribute (cell_at cells q) ≡ true → deleted_cell cells (run_end cells cols c) c q ≡ marked_cell cells c q
unfolding deleted_cell
deleted_says cells cols c q there =
    let end : ℕ = run_end cells cols c in
    elim (cases_Bool (leb c q && ltb q end)) [
      | inl within ↦
          let parts = and_parts (leb c q) (ltb q end) within in
          absurd (false≢true (sym (run_characters cells cols c q (leb-true c q parts.0) (ltb-true q end parts.1)) ∙ there))
      | inr apart ↦ cond-false (leb c q && ltb q end) _ _ apart
    ]

cleared_says : (cells : List Cell) (q : ℕ) → is_attribute (cell_at cells q) ≡ true → cleared_cell cells q ≡ unprotected_unmodified (cell_at cells q)
unfolding cleared_cell
cleared_says cells q there = cond-false (is_open cells q) _ _ (attribute_shut cells q there)

typed_marks : (v : Picture) (code q : ℕ) → is_attribute (cell_at v.cells q) ≡ true → Marks v (Typed code) q (typed_step v code)
unfolding typed_step
typed_marks v code q there =
    cond_both (is_graphic code) _ _ (Marks v (Typed code) q)
    (λ is. cond_both (is_open v.cells v.cursor) _ _ (Marks v (Typed code) q)
    (λ opens. marks_edit v.cells v.cursor q (typed_cell v.cells v.cursor code) opens there (typed_says v.cells v.cursor code q opens there))
    (λ shut. marks_nothing v (Typed code) q (inhibited v) refl refl refl))
    (λ none. marks_nothing v (Typed code) q (ignored v) refl refl refl)

eof_marks : (v : Picture) (q : ℕ) → is_attribute (cell_at v.cells q) ≡ true → Marks v EraseEof q (erase_eof_step v)
unfolding erase_eof_step
eof_marks v q there =
    cond_both (is_open v.cells v.cursor) _ _ (Marks v EraseEof q)
    (λ opens. marks_edit v.cells v.cursor q (end_erased_cell v.cells v.cursor) opens there (erased_says v.cells v.cursor q opens there))
    (λ shut. marks_nothing v EraseEof q (inhibited v) refl refl refl)

delete_marks : (v : Picture) (q : ℕ) → is_attribute (cell_at v.cells q) ≡ true → Marks v Delete q (delete_step v)
unfolding delete_step
delete_marks v q there =
    cond_both (is_open v.cells v.cursor) _ _ (Marks v Delete q)
    (λ opens. marks_edit v.cells v.cursor q (deleted_cell v.cells (run_end v.cells v.size.cols v.cursor) v.cursor) opens there (deleted_says v.cells v.size.cols v.cursor q there))
    (λ shut. marks_nothing v Delete q (inhibited v) refl refl refl)

input_marks : (v : Picture) (q : ℕ) → is_attribute (cell_at v.cells q) ≡ true → Marks v EraseInput q (erase_input_step v)
input_marks v q there =
    ap (λ x. is_modified (bits_of x)) (cell_at-ruled (length v.cells) (cleared_cell v.cells) q (attribute_inside v.cells q there) ∙ cleared_says v.cells q there)
    ∙ reset_cell_so (cell_at v.cells q) there

attention_marks : (v : Picture) (aid q : ℕ) → is_sent (attention_step v aid).pressed ≡ false → Marks v (Attention aid) q (attention_step v aid)
unfolding attention_step
attention_marks v aid q quiet =
    elim (cases_Bool (not (is_sending aid))) [
      | inl none ↦ subst (Marks v (Attention aid) q) (sym (cond-true (not (is_sending aid)) _ _ none)) (marks_nothing v (Attention aid) q (ignored v) refl refl refl)
      | inr key ↦ elim (cases_Bool (eqb aid 0x6D)) [
        | inl clear ↦
            let is : attention_step v aid ≡ sent (erased v.geometry.default v) aid = cond-false (not (is_sending aid)) _ _ key ∙ cond-true (eqb aid 0x6D) _ _ clear in
            absurd (false≢true (sym quiet ∙ ap (λ (s : Step). is_sent s.pressed) is))
        | inr other ↦
            let is : attention_step v aid ≡ sent v aid = cond-false (not (is_sending aid)) _ _ key ∙ cond-false (eqb aid 0x6D) _ _ other in
            absurd (false≢true (sym quiet ∙ ap (λ (s : Step). is_sent s.pressed) is))
      ]
    ]

free_marks : (v : Picture) (key : Key) (q : ℕ) → is_attribute (cell_at v.cells q) ≡ true → is_sent (free_step v key).pressed ≡ false → Marks v key q (free_step v key)
unfolding free_step
free_marks v (Typed code) q there quiet = typed_marks v code q there
free_marks v Left q there quiet = marks_nothing v Left q (free_step v Left) refl refl refl
free_marks v Right q there quiet = marks_nothing v Right q (free_step v Right) refl refl refl
free_marks v Up q there quiet = marks_nothing v Up q (free_step v Up) refl refl refl
free_marks v Down q there quiet = marks_nothing v Down q (free_step v Down) refl refl refl
free_marks v Tab q there quiet = marks_nothing v Tab q (free_step v Tab) refl refl refl
free_marks v BackTab q there quiet = marks_nothing v BackTab q (free_step v BackTab) refl refl refl
free_marks v NewLine q there quiet = marks_nothing v NewLine q (free_step v NewLine) refl refl refl
free_marks v Home q there quiet = marks_nothing v Home q (free_step v Home) refl refl refl
free_marks v EraseEof q there quiet = eof_marks v q there
free_marks v EraseInput q there quiet = input_marks v q there
free_marks v Delete q there quiet = delete_marks v q there
free_marks v Reset q there quiet = marks_nothing v Reset q (free_step v Reset) refl refl refl
free_marks v (Attention aid) q there quiet = attention_marks v aid q quiet

ignored_marks : (v : Picture) (key : Key) (q : ℕ) → Marks v key q (ignored v)
ignored_marks v key q = marks_nothing v key q (ignored v) refl (and_no (is_edit key)) (and_no (is_erase_input key))

error_marks : (v : Picture) (key : Key) (q : ℕ) → Marks v key q (error_step v key)
error_marks v Reset q = marks_nothing v Reset q (error_step v Reset) refl refl refl
error_marks v key q = ignored_marks v key q

under_marks : (lock : Lock) (v : Picture) (key : Key) (q : ℕ) → is_attribute (cell_at v.cells q) ≡ true → is_sent (step_under lock v key).pressed ≡ false → Marks v key q (step_under lock v key)
under_marks Free v key q there quiet = free_marks v key q there quiet
under_marks Waiting v key q there quiet = ignored_marks v key q
under_marks Error v key q there quiet = error_marks v key q

pub key_marks : (v : Picture) (key : Key) (q : ℕ) → is_attribute (cell_at v.cells q) ≡ true → is_sent (answer_of v key) ≡ false
    → modified_at (after_key v key).cells q ≡ (edits v key q || (modified_at v.cells q && not (clears v key && not (protected_at v.cells q))))
unfolding step_of
key_marks v key q there quiet = under_marks v.lock v key q there quiet

-- ---- an accepted edit stands in an unprotected field
typed_opens : (v : Picture) (code : ℕ) → is_accepted (typed_step v code).pressed ≡ true → is_open v.cells v.cursor ≡ true
unfolding typed_step
typed_opens v code accepted =
    elim (cases_Bool (is_open v.cells v.cursor)) [
      | inl opens ↦ opens
      | inr shut ↦ elim (cases_Bool (is_graphic code)) [
        | inl is ↦ absurd (false≢true (sym (ap (λ (s : Step). is_accepted s.pressed) (cond-true (is_graphic code) _ _ is ∙ cond-false (is_open v.cells v.cursor) _ _ shut)) ∙ accepted))
        | inr none ↦ absurd (false≢true (sym (ap (λ (s : Step). is_accepted s.pressed) (cond-false (is_graphic code) _ _ none)) ∙ accepted))
      ]
    ]

eof_opens : (v : Picture) → is_accepted (erase_eof_step v).pressed ≡ true → is_open v.cells v.cursor ≡ true
unfolding erase_eof_step
eof_opens v accepted =
    elim (cases_Bool (is_open v.cells v.cursor)) [
      | inl opens ↦ opens
      | inr shut ↦ absurd (false≢true (sym (ap (λ (s : Step). is_accepted s.pressed) (cond-false (is_open v.cells v.cursor) _ _ shut)) ∙ accepted))
    ]

delete_opens : (v : Picture) → is_accepted (delete_step v).pressed ≡ true → is_open v.cells v.cursor ≡ true
unfolding delete_step
delete_opens v accepted =
    elim (cases_Bool (is_open v.cells v.cursor)) [
      | inl opens ↦ opens
      | inr shut ↦ absurd (false≢true (sym (ap (λ (s : Step). is_accepted s.pressed) (cond-false (is_open v.cells v.cursor) _ _ shut)) ∙ accepted))
    ]

free_opens : (v : Picture) (key : Key) → is_edit key ≡ true → is_accepted (free_step v key).pressed ≡ true → is_open v.cells v.cursor ≡ true
unfolding free_step
free_opens v (Typed code) edit accepted = typed_opens v code accepted
free_opens v EraseEof edit accepted = eof_opens v accepted
free_opens v Delete edit accepted = delete_opens v accepted
free_opens v Left edit accepted = absurd cc
free_opens v Right edit accepted = absurd cc
free_opens v Up edit accepted = absurd cc
free_opens v Down edit accepted = absurd cc
free_opens v Tab edit accepted = absurd cc
free_opens v BackTab edit accepted = absurd cc
free_opens v NewLine edit accepted = absurd cc
free_opens v Home edit accepted = absurd cc
free_opens v EraseInput edit accepted = absurd cc
free_opens v Reset edit accepted = absurd cc
free_opens v (Attention aid) edit accepted = absurd cc

error_opens : (v : Picture) (key : Key) → is_edit key ≡ true → is_accepted (error_step v key).pressed ≡ true → is_open v.cells v.cursor ≡ true
error_opens v Reset edit accepted = absurd cc
error_opens v key edit accepted = absurd cc

under_opens : (lock : Lock) (v : Picture) (key : Key) → is_edit key ≡ true → is_accepted (step_under lock v key).pressed ≡ true → is_open v.cells v.cursor ≡ true
under_opens Free v key edit accepted = free_opens v key edit accepted
under_opens Waiting v key edit accepted = absurd cc
under_opens Error v key edit accepted = error_opens v key edit accepted

edit_opens : (v : Picture) (key : Key) → is_edit key ≡ true → is_accepted (answer_of v key) ≡ true → is_open v.cells v.cursor ≡ true
unfolding step_of
edit_opens v key edit accepted = under_opens v.lock v key edit accepted

pub edited_unprotected : (v : Picture) (key : Key) (q : ℕ) → edits v key q ≡ true → protected_at v.cells q ≡ false
edited_unprotected v key q is =
    let parts = and_parts (is_edit key) (is_accepted (answer_of v key) && governs v.cells q v.cursor) is in
    let more = and_parts (is_accepted (answer_of v key)) (governs v.cells q v.cursor) parts.1 in
    let rules = and_parts (is_character (cell_at v.cells v.cursor)) (is_at (attribute_before v.cells v.cursor) q) more.1 in
    governor_open v.cells v.cursor q (edit_opens v key parts.0 more.0) rules.1

-- ---- along the keys
nothing_parts : (early : List Key) (key : Key) (late : List Key) → [] ≡ early ++ key ∷ late → ⊥
nothing_parts [] key late e = cc
nothing_parts (first ∷ early) key late e = cc

heads : (a b : Key) (xs ys : List Key) → a ∷ xs ≡ b ∷ ys → a ≡ b
heads a b xs ys e = cc

tails : (a b : Key) (xs ys : List Key) → a ∷ xs ≡ b ∷ ys → xs ≡ ys
tails a b xs ys e = cc

kept_lasts : (c p n : Bool) → not (c && not p) ≡ true → n ≡ true → (p ≡ true) ⊎ ((not c && n) ≡ true)
kept_lasts true true n kept last = inl refl
kept_lasts true false n kept last = absurd cc
kept_lasts false p n kept last = inr last

stays_protected : (e m c p : Bool) → m ≡ true → p ≡ true → (e || (m && not (c && not p))) ≡ true
stays_protected true m c p is shut = refl
stays_protected false true true true is shut = refl
stays_protected false true false true is shut = refl
stays_protected false true c false is shut = absurd cc
stays_protected false false c p is shut = absurd cc

stays_uncleared : (e m c p : Bool) → m ≡ true → c ≡ false → (e || (m && not (c && not p))) ≡ true
stays_uncleared true m c p is none = refl
stays_uncleared false true true p is none = absurd cc
stays_uncleared false true false p is none = refl
stays_uncleared false false c p is none = absurd cc

-- what a key's equation says of the keys after it
record KeyTells (v : Picture) (key : Key) (q : ℕ) : Type 0 where
  marks : modified_at (after_key v key).cells q ≡ (edits v key q || (modified_at v.cells q && not (clears v key && not (protected_at v.cells q))))
  protection : protected_at (after_key v key).cells q ≡ protected_at v.cells q

from_after : (v : Picture) (key : Key) (keys : List Key) (q : ℕ) → KeyTells v key q → IsTouched (after_key v key) keys q → IsTouched v (key ∷ keys) q
unfolding after clears_nothing
from_after v key keys q tells (inr ed) =
    inr (record { early = key ∷ ed.early; key = ed.key; late = ed.late; parts = ap (λ ks. key ∷ ks) ed.parts; edited = ed.edited; lasts = ed.lasts })
from_after v key keys q tells (inl was) =
    elim (or_cases (edits v key q) (modified_at v.cells q && not (clears v key && not (protected_at v.cells q))) (sym tells.marks ∙ was.modified)) [
      | inl edit ↦ elim was.lasts [
        | inl shut ↦ absurd (false≢true (sym (edited_unprotected v key q edit) ∙ sym tells.protection ∙ shut))
        | inr none ↦ inr (record { early = []; key = key; late = keys; parts = refl; edited = edit; lasts = none })
      ]
      | inr kept ↦
          let parts = and_parts (modified_at v.cells q) (not (clears v key && not (protected_at v.cells q))) kept in
          inl (record {
            modified = parts.0;
            lasts = elim was.lasts [
              | inl shut ↦ inl (sym tells.protection ∙ shut)
              | inr none ↦ kept_lasts (clears v key) (protected_at v.cells q) (clears_nothing (after_key v key) keys) parts.1 none
            ];
          })
    ]

was_after : (v : Picture) (key : Key) (keys : List Key) (q : ℕ) → KeyTells v key q → WasModified v (key ∷ keys) q → WasModified (after_key v key) keys q
unfolding clears_nothing
was_after v key keys q tells was =
    elim was.lasts [
      | inl shut ↦ record {
        modified = tells.marks ∙ stays_protected (edits v key q) (modified_at v.cells q) (clears v key) (protected_at v.cells q) was.modified shut;
        lasts = inl (tells.protection ∙ shut);
      }
      | inr none ↦
          let parts = and_parts (not (clears v key)) (clears_nothing (after_key v key) keys) none in
          record {
            modified = tells.marks ∙ stays_uncleared (edits v key q) (modified_at v.cells q) (clears v key) (protected_at v.cells q) was.modified (not-true (clears v key) parts.0);
            lasts = inr parts.1;
          }
    ]

edited_after : (v : Picture) (key : Key) (keys : List Key) (q : ℕ) → KeyTells v key q → (early : List Key) (edit : Key) (late : List Key) → key ∷ keys ≡ early ++ edit ∷ late
    → edits (after v early) edit q ≡ true → clears_nothing (after_key (after v early) edit) late ≡ true → IsTouched (after_key v key) keys q
unfolding after
edited_after v key keys q tells [] edit late parts edited lasts =
    let first : key ≡ edit = heads key edit keys late parts in
    let rest : keys ≡ late = tails key edit keys late parts in
    let here : edits v key q ≡ true = ap (λ k. edits v k q) first ∙ edited in
    inl (record {
      modified = tells.marks ∙ ap (λ t. t || (modified_at v.cells q && not (clears v key && not (protected_at v.cells q)))) here;
      lasts = inr (ap (clears_nothing (after_key v key)) rest ∙ ap (λ k. clears_nothing (after_key v k) late) first ∙ lasts);
    })
edited_after v key keys q tells (first ∷ early) edit late parts edited lasts =
    let same : key ≡ first = heads key first keys (early ++ edit ∷ late) parts in
    inr (record {
      early = early;
      key = edit;
      late = late;
      parts = tails key first keys (early ++ edit ∷ late) parts;
      edited = ap (λ k. edits (after (after_key v k) early) edit q) same ∙ edited;
      lasts = ap (λ k. clears_nothing (after_key (after (after_key v k) early) edit) late) same ∙ lasts;
    })

to_after : (v : Picture) (key : Key) (keys : List Key) (q : ℕ) → KeyTells v key q → IsTouched v (key ∷ keys) q → IsTouched (after_key v key) keys q
to_after v key keys q tells (inl was) = inl (was_after v key keys q tells was)
to_after v key keys q tells (inr ed) = edited_after v key keys q tells ed.early ed.key ed.late ed.parts ed.edited ed.lasts

pub touched_law : ModifiedIsTouched
unfolding after is_quiet clears_nothing
touched_law v [] q quiet there =
    (λ is. inl (record { modified = is; lasts = inr refl }), λ touched. elim touched [ inl was ↦ was.modified | inr ed ↦ absurd (nothing_parts ed.early ed.key ed.late ed.parts) ])
touched_law v (key ∷ keys) q quiet there =
    let parts = and_parts (not (is_sent (answer_of v key))) (is_quiet (after_key v key) keys) quiet in
    let silent : is_sent (answer_of v key) ≡ false = not-true (is_sent (answer_of v key)) parts.0 in
    let kept : Keeps v.cells (after_key v key).cells = quiet_key_keeps v key silent in
    let tells : KeyTells v key q = record { marks = key_marks v key q there silent; protection = same_protection v.cells (after_key v key).cells q kept } in
    let later = touched_law (after_key v key) keys q parts.1 (same_kind v.cells (after_key v key).cells q kept ∙ there) in
    (λ is. from_after v key keys q tells (later.0 is), λ touched. later.1 (to_after v key keys q tells touched))
