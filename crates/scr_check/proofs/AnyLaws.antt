-- A picture against which nothing stands is answered as it is declared, whatever an operator leaves of it.
use Rattle.std.proofs.Common.{◌≡◌, ℕ, ◌&&◌, Bool, true, false, not, List, [], ◌∷◌, length, Option, Some, None, refl, sym, ◌∙◌, ap, subst, arith, inl, inr}
use Rattle.std.proofs.lemmas.Bool.{cond-false, cases_Bool, false≢true, eq-eqb}
use Rattle.ds_codec.specs.declared.cell.Cell.{Cell}
use Rattle.ds_codec.specs.declared.cell.Cell.TheVariants.{Field, Char}
use Rattle.ds_codec.specs.Aid.{is_long_aid, is_aid}
use Rattle.ds_codec.specs.Attribute.{is_protected, is_modified, with_modified}
use Rattle.ds_codec.specs.Geometry.{Sizes, IsGood, cells_of}
use Rattle.ds_screen.specs.declared.lock.Lock.{Lock}
use Rattle.ds_screen.specs.Picture.{Picture, IsSound, cell_at}
use Rattle.ds_screen.specs.Fields.{is_attribute, is_character, bits_of, is_at, attribute_before, bits_at, governs, is_open, span_of, field_at, attributes_from}
use Rattle.ds_screen.specs.Records.{unprotected_unmodified}
use Rattle.ds_keys.specs.declared.key.Key.{Key}
use Rattle.ds_keys.specs.KeyRuns as keyed
use Rattle.ds_keys.specs.Laws.{Keeps}
use Rattle.ds_keys.proofs.CellLaws.{protected_kept, open_parts, same_kind}
use Rattle.ds_keys.proofs.KeepLaws.{quiet_keys_keep}
use Rattle.ds_keys.proofs.TouchLaws.{touched_law}
use Rattle.ds_keys.proofs.SoundLaws.{keys_stay_sound}
use Rattle.ds_keys.proofs.ShapeLaws.{quiet_sized}
use Rattle.ds_inbound.specs.Answer.{is_modified_at, bytes_sent}
use Rattle.ds_inbound.specs.Inbound.{SaysOnly}
use Rattle.scr_layout.specs.Layout.{Declaration}
use Rattle.scr_check.specs.Findings.{findings_of}
use Rattle.scr_check.specs.Promise.{IsProtectedSame, due_answer}
use Rattle.scr_check.specs.Any.{IsLeftOf, AreModified, with_aid, AnswersForAny}
use Rattle.scr_check.proofs.KeptLaws.{kept_protected, same_attributes}
use Rattle.scr_check.proofs.TouchedFields.{HasEntry, field_good, field_empty, field_clean, declared_field, edit_shows}
use Rattle.scr_check.proofs.SentLaws.{sent_places, long_said, long_known, places_rise, among_parts, among_from}
use Rattle.scr_check.proofs.PromiseLaws.{IsOpened, attributes_some, keys_stay}

-- ---- what is protected the same is kept

tag_aside : (x y : Cell) → is_attribute x ≡ is_attribute y → is_attribute y ≡ true → is_protected (bits_of y) ≡ false
    → with_modified (bits_of x) false ≡ with_modified (bits_of y) false → unprotected_unmodified x ≡ unprotected_unmodified y
tag_aside (Field x) (Field y) kinds there opens same =
    let free : is_protected x ≡ false = sym (protected_kept x false) ∙ ap is_protected same ∙ protected_kept y false ∙ opens in
    ap (λ b. Field b) (cond-false (is_protected x) x (with_modified x false) free ∙ same ∙ sym (cond-false (is_protected y) y (with_modified y false) opens))
tag_aside (Char c) (Field y) kinds there opens same = absurd cc
tag_aside x (Char d) kinds there opens same = absurd cc

governed_same : (before after : List Cell) (p : ℕ) (o : Option ℕ) → IsProtectedSame before after → is_character (cell_at before p) ≡ true → attribute_before before p ≡ o
    → is_protected (bits_at before o) ≡ true → cell_at after p ≡ cell_at before p
governed_same before after p None k character is shut = absurd cc
governed_same before after p (Some q) k character is shut =
    let rules : governs before q p ≡ true = ap (λ t. t && is_at (attribute_before before p) q) character ∙ ap (λ o. is_at o q) is ∙ eq-eqb q q refl in
    k.characters q p rules shut

shut_so : (t s : Bool) → t ≡ true → (t && not s) ≡ false → s ≡ true
shut_so true true is none = refl
shut_so true false is none = absurd cc
shut_so false s is none = absurd cc

closed_same : (before after : List Cell) (p : ℕ) → IsProtectedSame before after → is_open before p ≡ false
    → unprotected_unmodified (cell_at after p) ≡ unprotected_unmodified (cell_at before p)
closed_same before after p k closed =
    elim (cases_Bool (is_attribute (cell_at before p))) [
      | inl there ↦
          elim (cases_Bool (is_protected (bits_of (cell_at before p)))) [
            | inl shut ↦ ap unprotected_unmodified (k.protected p shut)
            | inr opens ↦ tag_aside (cell_at after p) (cell_at before p) (k.places p) there opens (k.bits p there)
          ]
      | inr none ↦
          let character : is_character (cell_at before p) ≡ true = ap not none in
          ap unprotected_unmodified
          (governed_same before after p (attribute_before before p) k character refl (shut_so (is_character (cell_at before p)) (is_protected (bits_at before (attribute_before before p))) character closed))
    ]

pub protected_kept_so : (before after : List Cell) → IsProtectedSame before after → Keeps before after
protected_kept_so before after k =
    record {
      whole = k.whole;
      closed = λ p closed. closed_same before after p k closed;
      open_stays = λ p opens. ap not (k.places p) ∙ (open_parts before p opens).0;
    }

-- a sound picture is left sound, with any lock and any attention identifier that there is
pub left_sound : (opened v : Picture) (lock : Lock) (aid : ℕ) → IsSound opened → IsLeftOf opened v → is_aid aid ≡ true → IsSound (record v { lock = lock; aid = aid })
left_sound opened v lock aid sound left known =
    let whole : length v.cells ≡ cells_of v.size = left.kept.whole ∙ sound.whole ∙ ap cells_of (sym left.size) in
    record {
      default_good = subst (λ (g : Sizes). IsGood g.mode g.default) (sym left.geometry) sound.default_good;
      alternate_good = subst (λ (g : Sizes). IsGood g.mode g.alternate) (sym left.geometry) sound.alternate_good;
      one_of_two = elim sound.one_of_two [
        | inl is ↦ inl (left.size ∙ is ∙ ap (λ (g : Sizes). g.default) (sym left.geometry))
        | inr is ↦ inr (left.size ∙ is ∙ ap (λ (g : Sizes). g.alternate) (sym left.geometry))
      ];
      whole = whole;
      cursor_inside = omega (arith, whole, left.cursor);
      characters = left.characters;
      attention = known;
    }

-- ---- a modified field

none_there : (places : List ℕ) → length places ≡ 0 → places ≡ []
none_there [] none = refl
none_there (q ∷ places) none = absurd (omega (arith, none))

-- a field that was left modified has an entry, of its kind, that declares no fewer cells
pub modified_entry : (layout : Declaration) (opened v : Picture) (q : ℕ) → IsLeftOf opened v → findings_of layout opened ≡ [] → is_attribute (cell_at opened.cells q) ≡ true
    → is_modified_at v.cells q ≡ true → HasEntry layout.entries (field_at opened.cells q)
modified_entry layout opened v q left clean there set =
    let none = field_clean layout opened q clean there in
    let some : length (span_of opened.cells q) ≡ 0 → ⊥ = λ empty.
    false≢true (sym (field_empty layout.entries opened (field_at opened.cells q) empty none) ∙ left.empty q (none_there (span_of opened.cells q) empty) set) in
    elim (field_good layout.entries opened (field_at opened.cells q) some none) [
      | inl has ↦ has
      | inr shut ↦ absurd (false≢true (sym shut.1 ∙ ap (λ x. is_modified (bits_of x)) (sym (left.kept.protected q shut.0)) ∙ set))
    ]

-- ---- what is sent

modified_sent : (cells : List Cell) → AreModified cells (sent_places cells)
modified_sent cells =
    record {
      rising = places_rise cells;
      exactly = λ q. (
        λ among. let parts = among_parts cells q among in (parts.1, parts.0),
        λ is. among_from cells q is.1 is.0,
      );
    }

said_any : (layout : Declaration) (opened v : Picture) (aid : ℕ) → IsOpened layout opened → IsLeftOf opened v → is_long_aid aid ≡ true
    → SaysOnly layout.geometry.mode (cells_of layout.size) (due_answer aid v (sent_places v.cells)) (bytes_sent (with_aid aid v) false)
said_any layout opened v aid is left long =
    let k : Keeps opened.cells v.cells = protected_kept_so opened.cells v.cells left.kept in
    let some : attributes_from v.cells 0 ≡ [] → ⊥ = λ none. attributes_some opened.cells is.some (sym (same_attributes opened.cells v.cells k) ∙ none) in
    let due = due_answer aid v (sent_places v.cells) in
    let bytes : List ℕ = bytes_sent (with_aid aid v) false in
    let mode = ap (λ g. g.mode) (left.geometry ∙ is.geometry) in
    let cells : length v.cells ≡ cells_of layout.size = left.kept.whole ∙ is.sound.whole ∙ ap cells_of is.size in
    let M : _ → Type 0 = λ m. SaysOnly m (cells_of layout.size) due bytes in
    let N : ℕ → Type 0 = λ n. SaysOnly v.geometry.mode n due bytes in
    subst M mode (subst N cells (long_said (with_aid aid v) (left_sound opened v v.lock aid is.sound left (long_known aid long)) long some))

-- ---- the promise

pub answers_for_any : (layout : Declaration) (opened : Picture) → IsOpened layout opened → findings_of layout opened ≡ [] → AnswersForAny layout opened
answers_for_any layout opened is clean v left aid long =
    let k : Keeps opened.cells v.cells = protected_kept_so opened.cells v.cells left.kept in
    record {
      places = sent_places v.cells;
      modified = modified_sent v.cells;
      says = said_any layout opened v aid is left long;
      declared = λ q among.
          let parts = among_parts v.cells q among in
          let there : is_attribute (cell_at opened.cells q) ≡ true = sym (left.kept.places q) ∙ parts.1 in
          declared_field layout.entries opened.cells v.cells q k left.kept.characters (modified_entry layout opened v q left clean there parts.0);
    }

-- ---- the keys of this terminal leave no more

modified_there : (x : Cell) → is_modified (bits_of x) ≡ true → is_attribute x ≡ true
modified_there (Field bits) set = refl
modified_there (Char character) set = absurd cc

empty_stays : (opened : Picture) (keys : List Key) (q : ℕ) → IsSound opened → keyed.IsQuiet opened keys → span_of opened.cells q ≡ []
    → is_modified_at (keyed.after opened keys).cells q ≡ true → is_modified_at opened.cells q ≡ true
empty_stays opened keys q sound quiet none set =
    let v : Picture = keyed.after opened keys in
    let there : is_attribute (cell_at opened.cells q) ≡ true =
    sym (same_kind opened.cells v.cells q (quiet_keys_keep opened keys quiet)) ∙ modified_there (cell_at v.cells q) set in
    elim ((touched_law opened keys q quiet there).0 set) [
      | inl was ↦ was.modified
      | inr edited ↦ absurd ((edit_shows opened keys q sound quiet there edited).governs_some (ap length none))
    ]

pub keys_leave : (opened : Picture) (keys : List Key) → IsSound opened → keyed.IsQuiet opened keys → IsLeftOf opened (keyed.after opened keys)
keys_leave opened keys sound quiet =
    let stays : IsSound (keyed.after opened keys) = keys_stay_sound opened keys sound in
    record {
      geometry = keys_stay opened keys;
      size = quiet_sized opened keys quiet;
      cursor = omega (arith, stays.whole, stays.cursor_inside);
      characters = stays.characters;
      kept = kept_protected opened.cells (keyed.after opened keys).cells (quiet_keys_keep opened keys quiet);
      empty = λ q none set. empty_stays opened keys q sound quiet none set;
    }
