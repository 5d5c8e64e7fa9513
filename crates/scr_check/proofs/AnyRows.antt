-- Worked rows: what is left of a screen and what isn't, what is sent of it, why no tag may be set of a field without cells, and
-- that the characters of DUP and FM may be left.
use Rattle.std.proofs.Common.{◌≡◌, ℕ, zero, suc, true, false, List, [], ◌∷◌, refl, ap, arith}
use Rattle.std.specs.List.{list_all}
use Rattle.std.proofs.lemmas.Bool.{ne_eqb}
use Rattle.ds_codec.specs.declared.cell.Cell.{Cell}
use Rattle.ds_codec.specs.declared.cell.Cell.TheVariants.{Field, Char}
use Rattle.ds_codec.specs.declared.size.Mode.TheVariants.{Bits14}
use Rattle.ds_codec.specs.declared.size.Size.{Size}
use Rattle.ds_codec.specs.Address.{six_bit_code}
use Rattle.ds_codec.specs.Aid.{is_long_aid, is_short_aid, is_aid}
use Rattle.ds_codec.specs.Attribute.{is_protected, with_modified}
use Rattle.ds_codec.specs.Character.{glyph, is_text}
use Rattle.ds_screen.specs.declared.lock.Lock.TheVariants.{Free, Waiting}
use Rattle.ds_screen.specs.Ring.{ring_on, ring_back, least}
use Rattle.ds_screen.specs.Picture.{Picture, blank, cell_at, is_real}
use Rattle.ds_screen.specs.Fields.{is_attribute, bits_of, attribute_before, governs, span_of}
use Rattle.ds_inbound.specs.Answer.{is_modified_at, characters_at, field_sent, fields_sent, answer_of, written_answer, bytes_sent}
use Rattle.scr_layout.specs.Layout.{Declaration}
use Rattle.scr_check.specs.declared.finding.Finding.TheVariants.{EmptyModified}
use Rattle.scr_check.specs.Findings.{field_finding, findings_of}
use Rattle.scr_check.specs.Promise.{IsProtectedSame, due_answer}
use Rattle.scr_check.specs.Any.{IsLeftOf, SendsModified, with_aid}
use Rattle.scr_check.specs.Pen.{code_of}

-- a screen of one row of four cells: an unprotected field without cells, and a protected one of two
abbrev size : Size
size = record { rows = 1; cols = 4 }

abbrev layout : Declaration
layout = record { geometry = record { default = size; alternate = size; mode = Bits14 }; size = size; entries = [] }

abbrev cells : ℕ → List Cell
cells bits = Field bits ∷ Field 0x20 ∷ blank ∷ blank ∷ []

abbrev screen : ℕ → Picture
screen bits = record { geometry = layout.geometry; size = size; cells = cells bits; cursor = 2; lock = Free; aid = 0x60 }

-- nothing stands against it
pub nothing_stands : findings_of layout (screen 0) ≡ []
unfolding findings_of field_finding span_of attribute_before least ring_on ring_back
nothing_stands = refl

-- with the tag of the field without cells set, what is protected is the same
same_places : (p : ℕ) → is_attribute (cell_at (cells 1) p) ≡ is_attribute (cell_at (cells 0) p)
same_places zero = refl
same_places (suc p) = refl

same_protected : (p : ℕ) → is_protected (bits_of (cell_at (cells 0) p)) ≡ true → cell_at (cells 1) p ≡ cell_at (cells 0) p
same_protected zero shut = absurd cc
same_protected (suc p) shut = refl

same_bits : (p : ℕ) → is_attribute (cell_at (cells 0) p) ≡ true → with_modified (bits_of (cell_at (cells 1) p)) false ≡ with_modified (bits_of (cell_at (cells 0) p)) false
same_bits zero there = refl
same_bits (suc p) there = refl

same_characters : (q p : ℕ) → governs (cells 0) q p ≡ true → is_protected (bits_of (cell_at (cells 0) q)) ≡ true → cell_at (cells 1) p ≡ cell_at (cells 0) p
same_characters q zero rules shut = absurd cc
same_characters q (suc p) rules shut = refl

pub protected_same : IsProtectedSame (cells 0) (cells 1)
protected_same = record { whole = refl; places = same_places; protected = same_protected; bits = same_bits; characters = same_characters }

-- but Enter would send a field that no entry declares
pub not_declared : SendsModified layout (screen 0) (screen 1) 0x7D → ⊥
not_declared sends =
    let d = sends.declared 0 ((sends.modified.exactly 0).1 (refl, refl)) in
    absurd (let here = d.here in cc)

-- and a later turn that leaves that tag would have a finding, which the walk does not tell
pub later_stands : findings_of layout (screen 1) ≡ EmptyModified 1 ∷ []
unfolding findings_of field_finding span_of attribute_before least ring_on ring_back
later_stands = refl

-- DUP and FM are characters that may be left
pub duplicate_real : list_all is_real (Char (glyph 0x1C false) ∷ Char (glyph 0x1E false) ∷ []) ≡ true
unfolding is_text
duplicate_real = refl

-- ---- what is left, and what is sent of it

-- an input of one cell, a protected field of one, and what an operator typed into the first
abbrev form : ℕ → ℕ → ℕ → List Cell
form bits typed shown = Field bits ∷ Char (glyph typed false) ∷ Field 0x20 ∷ Char (glyph shown false) ∷ []

abbrev shows : List Cell → Picture
shows these = record { geometry = layout.geometry; size = size; cells = these; cursor = 1; lock = Free; aid = 0x60 }

typed_places : (p : ℕ) → is_attribute (cell_at (form 1 0xC2 0xC1) p) ≡ is_attribute (cell_at (form 0 0 0xC1) p)
typed_places zero = refl
typed_places (suc zero) = refl
typed_places (suc (suc p)) = refl

typed_protected : (p : ℕ) → is_protected (bits_of (cell_at (form 0 0 0xC1) p)) ≡ true → cell_at (form 1 0xC2 0xC1) p ≡ cell_at (form 0 0 0xC1) p
typed_protected zero shut = absurd cc
typed_protected (suc zero) shut = absurd cc
typed_protected (suc (suc p)) shut = refl

typed_bits : (p : ℕ) → is_attribute (cell_at (form 0 0 0xC1) p) ≡ true
    → with_modified (bits_of (cell_at (form 1 0xC2 0xC1) p)) false ≡ with_modified (bits_of (cell_at (form 0 0 0xC1) p)) false
typed_bits zero there = refl
typed_bits (suc zero) there = absurd cc
typed_bits (suc (suc p)) there = refl

not_governed : (q : ℕ) → governs (form 0 0 0xC1) (suc q) 1 ≡ false
unfolding attribute_before least ring_back
not_governed q = ne_eqb 0 (suc q) (λ same. absurd (omega (arith, same)))

typed_characters : (q p : ℕ) → governs (form 0 0 0xC1) q p ≡ true → is_protected (bits_of (cell_at (form 0 0 0xC1) q)) ≡ true → cell_at (form 1 0xC2 0xC1) p ≡ cell_at (form 0 0 0xC1) p
typed_characters q zero rules shut = absurd cc
typed_characters zero (suc zero) rules shut = absurd cc
typed_characters (suc q) (suc zero) rules shut = absurd (let no_rule = not_governed q in cc)
typed_characters q (suc (suc p)) rules shut = refl

typed_empty : (q : ℕ) → span_of (form 0 0 0xC1) q ≡ [] → is_modified_at (form 1 0xC2 0xC1) q ≡ true → is_modified_at (form 0 0 0xC1) q ≡ true
unfolding span_of attribute_before least ring_on ring_back
typed_empty zero none set = absurd cc
typed_empty (suc zero) none set = absurd cc
typed_empty (suc (suc p)) none set = set

-- typing B leaves that, whatever the lock
pub typed_left : IsLeftOf (shows (form 0 0 0xC1)) (record (shows (form 1 0xC2 0xC1)) { lock = Waiting })
unfolding is_text
typed_left =
    record {
      geometry = refl;
      size = refl;
      cursor = omega arith;
      characters = refl;
      kept = record { whole = refl; places = typed_places; protected = typed_protected; bits = typed_bits; characters = typed_characters };
      empty = typed_empty;
    }

-- another character in the protected field is not left
pub protected_not_left : IsLeftOf (shows (form 0 0 0xC1)) (shows (form 0 0 0xC2)) → ⊥
unfolding attribute_before least ring_back
protected_not_left left =
    let same : 0xC2 ≡ 0xC1 = ap code_of (left.kept.characters 2 3 refl refl) in
    absurd (omega (arith, same))

-- neither is another attribute, nor a cursor that is nowhere
pub bits_not_left : IsLeftOf (shows (form 0 0 0xC1)) (shows (form 0x10 0 0xC1)) → ⊥
bits_not_left left = absurd (let same = left.kept.bits 0 refl in cc)

pub cursor_not_left : IsLeftOf (shows (form 0 0 0xC1)) (record (shows (form 0 0 0xC1)) { cursor = 4 }) → ⊥
cursor_not_left left = absurd (omega (arith, left.cursor))

-- of what was typed Enter sends the cursor at 1, and the field at 1 with B
pub typed_sent : bytes_sent (with_aid 0x7D (shows (form 1 0xC2 0xC1))) false ≡ 0x7D ∷ 0x40 ∷ 0xC1 ∷ 0x11 ∷ 0x40 ∷ 0xC1 ∷ 0xC2 ∷ []
unfolding answer_of fields_sent field_sent characters_at span_of attribute_before least ring_on ring_back is_long_aid is_short_aid is_aid six_bit_code
typed_sent = refl

-- as the answer that is due says, with one field for the one modified attribute
pub typed_due : written_answer Bits14 4 (due_answer 0x7D (shows (form 1 0xC2 0xC1)) (0 ∷ [])) ≡ bytes_sent (with_aid 0x7D (shows (form 1 0xC2 0xC1))) false
unfolding answer_of fields_sent field_sent characters_at span_of attribute_before least ring_on ring_back is_long_aid is_short_aid is_aid six_bit_code
typed_due = refl
