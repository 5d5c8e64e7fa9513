-- The text that an operator sees before a field on its row.
use Rattle.std.specs.Prelude.{◌≡◌, ℕ, ◌+◌, ◌-◌, ◌%◌, ◌<◌, ◌≤◌, ◌⊎◌, Bool, true, false, not, ◌&&◌, ◌||◌, ◌==◌, nat_le, nat_lt, List, [], ◌∷◌, map, length, if◌then◌else◌}
use Rattle.std.specs.List.{range_with_len}
use Rattle.ds_codec.specs.declared.cell.Cell.{Cell}
use Rattle.ds_codec.specs.declared.cell.Cell.TheVariants.{Field, Char}
use Rattle.ds_codec.specs.Attribute.{is_protected, is_hidden}
use Rattle.ds_codec.specs.Character.{Glyph}
use Rattle.ds_screen.specs.Picture.{cell_at}
use Rattle.ds_screen.specs.Fields.{ruling_bits}
use Rattle.ds_screen.specs.Shown.{text_of}
use Rattle.scr_draft.specs.declared.mark.Mark.{Mark}
use Rattle.scr_draft.specs.declared.mark.Mark.TheVariants.{Border, Between, Word}
use Rattle.scr_draft.specs.declared.label.Label.{Label}

-- ---- one position

-- a letter or a digit
abbrev pub is_word : ℕ → Bool
is_word c = nat_le 48 c && nat_le c 57 || nat_le 65 c && nat_le c 90 || nat_le 97 c && nat_le c 122

-- the text of a character; a null is seen as a space
abbrev pub seen_code : Glyph → ℕ
seen_code character = if character.code == 0 then 32 else text_of character

abbrev pub printed_mark : ℕ → Mark
printed_mark c = if is_word c then Word else Between

-- text is a character of a protected field that is not hidden
abbrev pub marked : ℕ → Cell → Mark
marked ruling (Field bits) = Border
marked ruling (Char character) = if is_protected ruling && not (is_hidden ruling) then printed_mark (seen_code character) else Border

abbrev pub mark_at : List Cell → ℕ → Mark
mark_at cells p = marked (ruling_bits cells p) (cell_at cells p)

abbrev pub seen_in : Cell → ℕ
seen_in (Field bits) = 32
seen_in (Char character) = seen_code character

abbrev pub seen_at : List Cell → ℕ → ℕ
seen_at cells p = seen_in (cell_at cells p)

-- ---- positions in turn

-- no word so far
abbrev pub no_label : Label
no_label = record { start = 0; stop = 0; goes_on = false }

-- a word goes on with the label up to which no border stands, else it begins another
abbrev pub label_after : ℕ → Mark → Label → Label
label_after p Border label = record label { goes_on = false }
label_after p Between label = label
label_after p Word label =
    if label.goes_on then record label { stop = p + 1 } else record { start = p; stop = p + 1; goes_on = true }

-- the last label of so many positions from p on: from the first word behind a border to the last word
abbrev pub label_in : List Cell → Label → List ℕ → Label
label_in cells label [] = label
label_in cells label (p ∷ places) = label_in cells (label_after p (mark_at cells p) label) places

-- the label of the field that begins at a place of the buffer: the last one before it on its row, which has so many
-- columns
abbrev pub label_of : List Cell → ℕ → ℕ → Label
label_of cells cols place =
    if nat_lt place (length cells) then label_in cells no_label (range_with_len (place - place % cols) (place % cols)) else no_label

-- what is seen of a label, from its first word to its last
abbrev pub label_text : List Cell → Label → List ℕ
label_text cells label = map (seen_at cells) (range_with_len label.start (label.stop - label.start))

-- ---- the same by positions

-- no letter and no digit of a text stands from one position up to another
abbrev pub HasNoWord : List Cell → ℕ → ℕ → Type 0
HasNoWord cells from to = (q : ℕ) → from ≤ q → q < to → mark_at cells q ≡ Word → ⊥

-- a border stands from one position up to another
abbrev pub HasBorder : List Cell → ℕ → ℕ → Type 0
HasBorder cells from to = (q : ℕ) × (from ≤ q) × (q < to) × (mark_at cells q ≡ Border)

-- The last text from one position up to another: a word begins it, a word ends it and none comes after it, no border
-- stands in it, and a border stands between it and each word before it.
pub record IsLastText (cells : List Cell) (from to : ℕ) (label : Label) : Type 0 where
  pub begins : from ≤ label.start
  pub some : label.start < label.stop
  pub ends : label.stop ≤ to
  pub first : mark_at cells label.start ≡ Word
  pub last : mark_at cells (label.stop - 1) ≡ Word
  pub after : HasNoWord cells label.stop to
  pub whole : HasBorder cells label.start label.stop → ⊥
  pub before : (q : ℕ) → from ≤ q → q < label.start → mark_at cells q ≡ Word → HasBorder cells q label.start

-- the label is the last text from one position up to another, or there is no text and the label has no position
abbrev pub IsLabel : List Cell → ℕ → ℕ → Label → Type 0
IsLabel cells from to label = (HasNoWord cells from to × (label.start ≡ 0) × (label.stop ≡ 0)) ⊎ IsLastText cells from to label
