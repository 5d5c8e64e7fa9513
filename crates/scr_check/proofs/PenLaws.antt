-- Where no field is found that may not be selected, selecting leaves what a terminal can leave.
use Rattle.std.proofs.Common.{◌≡◌, ℕ, ◌+◌, ◌-◌, ◌/◌, ◌%◌, ◌<◌, ◌&&◌, ◌||◌, Bool, true, false, not, ◌==◌, cond, List, [], ◌∷◌, length, Some, None, refl, sym, ◌∙◌, ap, subst, arith, inl, inr}
use Rattle.std.specs.List.{range_with_len, list_all}
use Rattle.std.proofs.lemmas.Bool.{cond-true, cond-false, cases_Bool, false≢true, and_parts, or_parts, eqb-true, eq-eqb}
use Rattle.ds_codec.specs.declared.cell.Cell.{Cell}
use Rattle.ds_codec.specs.declared.cell.Cell.TheVariants.{Field, Char}
use Rattle.ds_codec.specs.Attribute.{is_protected, is_detectable, is_modified, with_modified}
use Rattle.ds_codec.specs.Character.{glyph, is_text}
use Rattle.ds_screen.specs.Ring.{ring_on}
use Rattle.ds_screen.specs.Picture.{Picture, cell_at, is_real, ruled}
use Rattle.ds_screen.specs.Fields.{is_attribute, is_character, bits_of, is_at, attribute_before, bits_at, governs, is_open, span_of, field_at, attributes_from}
use Rattle.ds_screen.specs.Records.{unprotected_unmodified}
use Rattle.ds_screen.proofs.RingLaws.{on_lt}
use Rattle.ds_screen.proofs.RuledLaws.{length-ruled, cell_at-ruled, place_before}
use Rattle.ds_screen.proofs.FieldLaws.{before_back, before_here}
use Rattle.ds_screen.proofs.CharacterLaws.{AreReal, each_real, all_real, ruled_real, either_real}
use Rattle.ds_keys.specs.Laws.{Keeps}
use Rattle.ds_keys.proofs.CellLaws.{CellKeeps, protected_kept, open_parts, open_from_parts, rule_keeps, same_protection}
use Rattle.ds_inbound.specs.Answer.{is_modified_at}
use Rattle.scr_check.specs.declared.finding.Finding.{Finding}
use Rattle.scr_check.specs.declared.finding.Finding.TheVariants.{Selectable}
use Rattle.scr_check.specs.Promise.{IsProtectedSame, is_among}
use Rattle.scr_check.specs.Any.{IsLeftOf}
use Rattle.scr_check.specs.Pen.{is_designator, code_of, code_after, can_select, toggled, selected_cell, selected, is_selectable, selectable_finding, selectable_of, SelectingLeaves}
use Rattle.scr_check.proofs.Among.{among_filter, among_range, none_found}
use Rattle.scr_check.proofs.KeptLaws.{attribute_inside, attribute_shut, kept_protected, same_span}
use Rattle.scr_check.proofs.AnyLaws.{protected_kept_so}
use Rattle.scr_check.proofs.AnyKeys.{leaves_in_steps}

-- ---- bits

detectable_reset : (bits : ℕ) → is_detectable (with_modified bits false) ≡ is_detectable bits
detectable_reset bits = let e : (bits - bits % 2 + 0) / 4 ≡ bits / 4 = omega arith in ap (λ x. (x % 4 == 1) || (x % 4 == 2)) e

detectable_there : (x : Cell) → is_detectable (bits_of x) ≡ true → is_attribute x ≡ true
detectable_there (Field bits) is = refl
detectable_there (Char character) is = absurd cc

reset_again : (bits : ℕ) (to : Bool) → with_modified (with_modified bits to) false ≡ with_modified bits false
reset_again bits true = omega arith
reset_again bits false = omega arith

-- the tag of an unprotected attribute doesn't count
tag_aside : (x : Cell) (to : Bool) → is_attribute x ≡ true → is_protected (bits_of x) ≡ false → unprotected_unmodified (Field (with_modified (bits_of x) to)) ≡ unprotected_unmodified x
tag_aside (Char character) to there opens = absurd cc
tag_aside (Field bits) to there opens =
    let p : is_protected (with_modified bits to) ≡ false = protected_kept bits to ∙ opens in
    ap (λ b. Field b) (cond-false (is_protected (with_modified bits to)) _ _ p ∙ reset_again bits to ∙ sym (cond-false (is_protected bits) _ _ opens))

-- ---- designators

toggled_attribute : (x : Cell) → is_attribute x ≡ true → toggled x ≡ x
toggled_attribute (Field bits) there = refl
toggled_attribute (Char character) there = absurd cc

either_kind : (t : Bool) (x y : Cell) → is_character x ≡ true → is_character y ≡ true → is_character (cond t x y) ≡ true
either_kind true x y first second = first
either_kind false x y first second = second

toggled_kind : (x : Cell) → is_character x ≡ true → is_character (toggled x) ≡ true
toggled_kind (Field bits) character = absurd cc
toggled_kind (Char character) is =
    either_kind (character.code == 0x6F) (Char (glyph 0x6E false)) _ refl (either_kind (character.code == 0x6E) (Char (glyph 0x6F false)) (Char character) refl refl)

either_bits : (t : Bool) (x y : Cell) → bits_of x ≡ 0 → bits_of y ≡ 0 → bits_of (cond t x y) ≡ 0
either_bits true x y first second = first
either_bits false x y first second = second

toggled_bits : (x : Cell) → bits_of (toggled x) ≡ bits_of x
toggled_bits (Field bits) = refl
toggled_bits (Char character) =
    either_bits (character.code == 0x6F) (Char (glyph 0x6E false)) _ refl (either_bits (character.code == 0x6E) (Char (glyph 0x6F false)) (Char character) refl refl)

designators_real : (is_real (Char (glyph 0x6E false)) ≡ true) × (is_real (Char (glyph 0x6F false)) ≡ true)
unfolding is_text
designators_real = (refl, refl)

toggled_real : (x : Cell) → is_real x ≡ true → is_real (toggled x) ≡ true
toggled_real (Field bits) real = refl
toggled_real (Char character) real =
    either_real (character.code == 0x6F) (Char (glyph 0x6E false)) _ designators_real.0
    (either_real (character.code == 0x6E) (Char (glyph 0x6F false)) (Char character) designators_real.1 real)

-- ---- one position

-- the attribute rules the character after it
rules_next : (cells : List Cell) (q p : ℕ) → is_attribute (cell_at cells q) ≡ true → p ≡ ring_on (length cells) q 1 → is_attribute (cell_at cells p) ≡ false
    → attribute_before cells p ≡ Some q
rules_next cells q p there next none =
    let n : ℕ = length cells in
    let lt : q < n = attribute_inside cells q there in
    let inside : p < n = subst (λ z. z < n) (sym next) (on_lt n q 1 lt (omega (arith, lt))) in
    before_back cells p inside none ∙ ap (attribute_before cells) (place_before n n q p lt refl next) ∙ before_here cells q lt there

cell_same : (cells : List Cell) (p : ℕ) → CellKeeps (is_open cells p) (cell_at cells p) (cell_at cells p)
cell_same cells p = record { closed = λ shut. refl; open_stays = λ opens. (open_parts cells p opens).0 }

tag_keeps : (cells : List Cell) (q : ℕ) (to : Bool) → is_attribute (cell_at cells q) ≡ true → is_protected (bits_of (cell_at cells q)) ≡ false
    → CellKeeps (is_open cells q) (cell_at cells q) (Field (with_modified (bits_of (cell_at cells q)) to))
tag_keeps cells q to there opens =
    record {
      closed = λ shut. tag_aside (cell_at cells q) to there opens;
      open_stays = λ is. absurd (false≢true (sym (attribute_shut cells q there) ∙ is));
    }

next_keeps : (cells : List Cell) (q p : ℕ) → is_attribute (cell_at cells q) ≡ true → is_protected (bits_of (cell_at cells q)) ≡ false → p ≡ ring_on (length cells) q 1
    → CellKeeps (is_open cells p) (cell_at cells p) (toggled (cell_at cells p))
next_keeps cells q p there opens next =
    elim (cases_Bool (is_attribute (cell_at cells p))) [
      | inl another ↦ subst (λ x. CellKeeps (is_open cells p) (cell_at cells p) x) (sym (toggled_attribute (cell_at cells p) another)) (cell_same cells p)
      | inr none ↦
          let character : is_character (cell_at cells p) ≡ true = ap not none in
          let open_there : is_open cells p ≡ true =
          open_from_parts cells p character (ap (λ o. is_protected (bits_at cells o)) (rules_next cells q p there next none) ∙ opens) in
          record {
            closed = λ shut. absurd (false≢true (sym shut ∙ open_there));
            open_stays = λ is. toggled_kind (cell_at cells p) character;
          }
    ]

-- an unprotected field was selected
position_keeps : (cells : List Cell) (q p : ℕ) → is_attribute (cell_at cells q) ≡ true → is_protected (bits_of (cell_at cells q)) ≡ false
    → CellKeeps (is_open cells p) (cell_at cells p) (selected_cell cells q p)
position_keeps cells q p there opens =
    let K : Cell → Type 0 = λ x. CellKeeps (is_open cells p) (cell_at cells p) x in
    let to : Bool = not (code_after cells q == 0x6E) in
    elim (cases_Bool (p == q)) [
      | inl here ↦
          subst K (sym (cond-true (p == q) _ _ here))
          (subst (λ z. CellKeeps (is_open cells z) (cell_at cells z) (Field (with_modified (bits_of (cell_at cells q)) to))) (sym (eqb-true p q here)) (tag_keeps cells q to there opens))
      | inr apart ↦
          subst K (sym (cond-false (p == q) _ _ apart))
          (elim (cases_Bool (p == ring_on (length cells) q 1)) [
            | inl next ↦ subst K (sym (cond-true (p == ring_on (length cells) q 1) _ _ next)) (next_keeps cells q p there opens (eqb-true p (ring_on (length cells) q 1) next))
            | inr far ↦ subst K (sym (cond-false (p == ring_on (length cells) q 1) _ _ far)) (cell_same cells p)
          ])
    ]

-- ---- the tags

-- only the tag of its own attribute changes
other_bits : (cells : List Cell) (q p : ℕ) → (p == q) ≡ false → bits_of (selected_cell cells q p) ≡ bits_of (cell_at cells p)
other_bits cells q p apart =
    ap bits_of (cond-false (p == q) _ _ apart)
    ∙ elim (cases_Bool (p == ring_on (length cells) q 1)) [
      | inl next ↦ ap bits_of (cond-true (p == ring_on (length cells) q 1) _ _ next) ∙ toggled_bits (cell_at cells p)
      | inr far ↦ ap bits_of (cond-false (p == ring_on (length cells) q 1) _ _ far)
    ]

modified_attribute : (x : Cell) → is_modified (bits_of x) ≡ true → is_attribute x ≡ true
modified_attribute (Field bits) set = refl
modified_attribute (Char character) set = absurd cc

others_tagged : (cells : List Cell) (q r : ℕ) → (r == q) ≡ false → is_modified_at (ruled (length cells) (selected_cell cells q)) r ≡ true → is_modified_at cells r ≡ true
others_tagged cells q r apart set =
    let n : ℕ = length cells in
    let after : List Cell = ruled n (selected_cell cells q) in
    let lt : r < n = omega (arith, attribute_inside after r (modified_attribute (cell_at after r) set), length-ruled n (selected_cell cells q)) in
    ap is_modified (sym (other_bits cells q r apart)) ∙ ap (λ x. is_modified (bits_of x)) (sym (cell_at-ruled n (selected_cell cells q) r lt)) ∙ set

-- ---- the characters

position_real : (cells : List Cell) (q : ℕ) → AreReal cells → (p : ℕ) → is_real (selected_cell cells q p) ≡ true
position_real cells q each p =
    either_real (p == q) (Field (with_modified (bits_of (cell_at cells q)) (not (code_after cells q == 0x6E)))) _ refl
    (either_real (p == ring_on (length cells) q 1) (toggled (cell_at cells p)) (cell_at cells p) (toggled_real (cell_at cells p) (each p)) (each p))

-- ---- one field

-- an unprotected field with cells
pub record IsSafe (cells : List Cell) (q : ℕ) : Type 0 where
  pub unprotected : is_protected (bits_of (cell_at cells q)) ≡ false
  pub some : span_of cells q ≡ [] → ⊥

ruled_left : (v : Picture) (q : ℕ) → is_attribute (cell_at v.cells q) ≡ true → IsSafe v.cells q → v.cursor < length v.cells → list_all is_real v.cells ≡ true
    → IsLeftOf v (record v { cells = ruled (length v.cells) (selected_cell v.cells q) })
ruled_left v q there safe inside real =
    let n : ℕ = length v.cells in
    let rule : ℕ → Cell = selected_cell v.cells q in
    record {
      geometry = refl;
      size = refl;
      cursor = omega (arith, inside, length-ruled n rule);
      characters = all_real (ruled n rule) (ruled_real n rule (position_real v.cells q (each_real v.cells real)));
      kept = kept_protected v.cells (ruled n rule) (rule_keeps v.cells rule (λ p lt. position_keeps v.cells q p there safe.unprotected));
      empty = λ r none set. elim (cases_Bool (r == q)) [
        | inl here ↦ absurd (safe.some (ap (span_of v.cells) (sym (eqb-true r q here)) ∙ none))
        | inr apart ↦ others_tagged v.cells q r apart set
      ];
    }

-- ---- what was found of the screen that was opened

none_told : (t : Bool) (finding : Finding) → cond t (Some finding) None ≡ None → t ≡ false
none_told true finding none = absurd cc
none_told false finding none = refl

not_told : (cells : List Cell) (q : ℕ) → selectable_of cells ≡ [] → is_attribute (cell_at cells q) ≡ true → is_selectable cells (field_at cells q) ≡ false
not_told cells q safe there =
    let n : ℕ = length cells in
    let lt : q < n = attribute_inside cells q there in
    let among : is_among (attributes_from cells 0) q ≡ true =
    among_filter (λ p. is_attribute (cell_at cells p)) (range_with_len 0 (n - 0)) q
    ∙ ap (λ t. t && is_among (range_with_len 0 (n - 0)) q) there ∙ among_range 0 (n - 0) q (omega arith) (omega arith) in
    none_told (is_selectable cells (field_at cells q)) (Selectable (field_at cells q).place)
    (none_found (selectable_finding cells) (field_at cells) (attributes_from cells 0) q among safe)

empty_length : (span : List ℕ) → span ≡ [] → (length span == 0) ≡ true
empty_length span none = ap (λ l. length l == 0) none

and_not : (t s : Bool) → t ≡ true → (t && s) ≡ false → s ≡ false
and_not true s is none = none
and_not false s is none = absurd cc

-- a field that can be selected on such a screen has cells, and is unprotected or has no designator
record IsApart (cells : List Cell) (q : ℕ) : Type 0 where
  some : span_of cells q ≡ [] → ⊥
  apart : is_protected (bits_of (cell_at cells q)) ≡ true → is_designator (code_after cells q) ≡ true → ⊥

apart_so : (cells : List Cell) (q : ℕ) → is_detectable (bits_of (cell_at cells q)) ≡ true → is_selectable cells (field_at cells q) ≡ false → IsApart cells q
unfolding is_selectable
apart_so cells q detectable none =
    let shut : Bool = is_protected (bits_of (cell_at cells q)) in
    let parts = or_parts (length (span_of cells q) == 0) (shut && is_designator (code_after cells q)) (and_not (is_detectable (bits_of (cell_at cells q))) _ detectable none) in
    record {
      some = λ empty. false≢true (sym parts.0 ∙ empty_length (span_of cells q) empty);
      apart = λ is designator. false≢true (sym parts.1 ∙ ap (λ t. t && is_designator (code_after cells q)) is ∙ designator);
    }

-- ---- what was left of it

attribute_code : (x : Cell) → is_attribute x ≡ true → code_of x ≡ 0
attribute_code (Field bits) there = refl
attribute_code (Char character) there = absurd cc

-- the first position of a protected field
code_kept : (before after : List Cell) (q p : ℕ) → IsProtectedSame before after → is_attribute (cell_at before q) ≡ true → is_protected (bits_of (cell_at before q)) ≡ true
    → p ≡ ring_on (length before) q 1 → code_of (cell_at before p) ≡ code_of (cell_at after p)
code_kept before after q p kept there shut next =
    elim (cases_Bool (is_attribute (cell_at before p))) [
      | inl another ↦ attribute_code (cell_at before p) another ∙ sym (attribute_code (cell_at after p) (kept.places p ∙ another))
      | inr none ↦
          let rules : governs before q p ≡ true =
          ap (λ t. not t && is_at (attribute_before before p) q) none ∙ ap (λ o. is_at o q) (rules_next before q p there next none) ∙ eq-eqb q q refl in
          ap code_of (sym (kept.characters q p rules shut))
    ]

safe_left : (opened v : Picture) (q : ℕ) → selectable_of opened.cells ≡ [] → IsLeftOf opened v → can_select v.cells q ≡ true → IsSafe v.cells q
safe_left opened v q none left can =
    let parts = and_parts (is_detectable (bits_of (cell_at v.cells q))) (is_designator (code_after v.cells q)) can in
    let k : Keeps opened.cells v.cells = protected_kept_so opened.cells v.cells left.kept in
    let there : is_attribute (cell_at opened.cells q) ≡ true = sym (left.kept.places q) ∙ detectable_there (cell_at v.cells q) parts.0 in
    let detectable : is_detectable (bits_of (cell_at opened.cells q)) ≡ true =
    sym (detectable_reset (bits_of (cell_at opened.cells q))) ∙ ap is_detectable (sym (left.kept.bits q there)) ∙ detectable_reset (bits_of (cell_at v.cells q)) ∙ parts.0 in
    let a : IsApart opened.cells q = apart_so opened.cells q detectable (not_told opened.cells q none there) in
    let n : ℕ = length opened.cells in
    record {
      unprotected = elim (cases_Bool (is_protected (bits_of (cell_at v.cells q)))) [
        | inl shut ↦
            let was : is_protected (bits_of (cell_at opened.cells q)) ≡ true = sym (same_protection opened.cells v.cells q k) ∙ shut in
            absurd (a.apart was (ap is_designator (code_kept opened.cells v.cells q (ring_on n q 1) left.kept there was refl
            ∙ ap (λ m. code_of (cell_at v.cells (ring_on m q 1))) (sym k.whole)) ∙ parts.1))
        | inr opens ↦ opens
      ];
      some = λ empty. a.some (sym (same_span opened.cells v.cells q k) ∙ empty);
    }

-- ---- the law

one_left : (opened v : Picture) (q : ℕ) → selectable_of opened.cells ≡ [] → IsLeftOf opened v → IsLeftOf opened (selected v q)
one_left opened v q none left =
    let P : List Cell → Type 0 = λ cells. IsLeftOf opened (record v { cells = cells }) in
    let changed : List Cell = ruled (length v.cells) (selected_cell v.cells q) in
    elim (cases_Bool (can_select v.cells q)) [
      | inl can ↦
          let there : is_attribute (cell_at v.cells q) ≡ true =
          detectable_there (cell_at v.cells q) (and_parts (is_detectable (bits_of (cell_at v.cells q))) (is_designator (code_after v.cells q)) can).0 in
          subst P (sym (cond-true (can_select v.cells q) changed v.cells can))
          (leaves_in_steps opened v (record v { cells = changed }) left (ruled_left v q there (safe_left opened v q none left can) left.cursor left.characters))
      | inr not ↦ subst P (sym (cond-false (can_select v.cells q) changed v.cells not)) left
    ]

pub selecting_leaves : SelectingLeaves
selecting_leaves opened v [] none left = left
selecting_leaves opened v (q ∷ places) none left = selecting_leaves opened (selected v q) places none (one_left opened v q none left)
