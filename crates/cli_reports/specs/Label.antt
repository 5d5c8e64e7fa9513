-- The text that an operator sees before a field on its row.
use Rattle.std.specs.Prelude.{ℕ, ◌+◌, ◌-◌, ◌%◌, ◌==◌, nat_lt, Bool, true, false, Option, Some, None, List, [], ◌∷◌, ◌++◌, codes, length, map, if◌then◌else◌}
use Rattle.std.specs.List.{range_with_len}
use Rattle.ds_codec.specs.declared.cell.Cell.{Cell}
use Rattle.ds_codec.specs.declared.cell.Cell.TheVariants.{Field, Char}
use Rattle.ds_screen.specs.Picture.{Picture, cell_at}
use Rattle.cli_pictures.specs.Seen.{seen_at, shown_at}
use Rattle.cli_reports.specs.declared.label.Label.{Label}

-- nothing so far
abbrev pub no_label : Label
no_label = record { start = 0; stop = 0; goes_on = false }

-- a character that is seen goes on with the text up to which no attribute stands, else it begins another
abbrev pub label_seen : ℕ → Option ℕ → Label → Label
label_seen p None label = label
label_seen p (Some character) label = record { start = (if label.goes_on then label.start else p); stop = p + 1; goes_on = true }

abbrev pub label_under : Cell → ℕ → Option ℕ → Label → Label
label_under (Field attribute) p seen label = record label { goes_on = false }
label_under (Char character) p seen label = label_seen p seen label

abbrev pub label_after : List Cell → ℕ → Label → Label
label_after cells p label = label_under (cell_at cells p) p (seen_at cells p) label

-- the last text of so many positions: from the first character behind an attribute to the last
abbrev pub label_in : List Cell → Label → List ℕ → Label
label_in cells label [] = label
label_in cells label (p ∷ places) = label_in cells (label_after cells p label) places

-- the label of the field that begins at a place: the last text before it on its row
abbrev pub label_of : Picture → ℕ → Label
label_of v place =
    if nat_lt place (length v.cells) then label_in v.cells no_label (range_with_len (place - place % v.size.cols) (place % v.size.cols)) else no_label

-- what is seen of it
abbrev pub label_text : List Cell → Label → List ℕ
label_text cells label = map (shown_at cells) (range_with_len label.start (label.stop - label.start))

abbrev pub words_of : List Cell → Label → List ℕ
words_of cells label = if label.stop == 0 then [] else codes ", after '" ++ (label_text cells label ++ codes "'")

abbrev pub label_words : Picture → ℕ → List ℕ
label_words v place = words_of v.cells (label_of v place)
