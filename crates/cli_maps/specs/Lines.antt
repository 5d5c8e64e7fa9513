-- The lines of `check --map`, and the field and the line of the source of each finding.
use Rattle.std.specs.Prelude.{ℕ, Bool, ◌==◌, List, [], ◌∷◌, ◌++◌, codes, slice_get, Option, Some, None, option_and_then}
use Rattle.std.specs.Fmt.{decimal}
use Rattle.std.specs.List.{find, flat_map}
use Rattle.bms_source.specs.Printed.{printed_codes}
use Rattle.bms_map.specs.Maps.{Sheet, Shown}
use Rattle.bms_map.specs.declared.overlap.Overlap.{Overlap}
use Rattle.bms_map.specs.declared.overlap.Overlap.TheVariants.{Overlaps, PastEnd}
use Rattle.bms_map.specs.LayoutText.{label_text, place_of as first_place}
use Rattle.scr_layout.specs.Entry.{Declared}
use Rattle.scr_check.specs.FindingText.{finding_text}
use Rattle.cli_findings.specs.Facts.{place_of}
use Rattle.cli_maps.specs.declared.judged.MapFinding.{MapFinding}
use Rattle.cli_maps.specs.declared.judged.MapFinding.TheVariants.{Overlapping, Found}

-- ---- the field

-- its first character stands at this position
abbrev pub is_at : Sheet → ℕ → Shown → Bool
is_at map place field = first_place map field == place

abbrev pub field_at : Sheet → ℕ → Option Shown
field_at map place = find (is_at map place) map.fields

-- the field that is told: that of an attribute, or of an entry; none for what stands against the map as a whole
abbrev pub overlap_field : Sheet → Overlap → Option Shown
overlap_field map (Overlaps index other) = slice_get map.fields index
overlap_field map (PastEnd index by) = slice_get map.fields index

abbrev pub field_of : Sheet → List Declared → MapFinding → Option Shown
field_of map entries (Overlapping overlap) = overlap_field map overlap
field_of map entries (Found finding) = option_and_then (field_at map) (place_of entries finding)

-- the number of the line of its DFHMDF, or of the map's DFHMDI
abbrev pub line_of : Sheet → Option Shown → ℕ
line_of map None = map.line
line_of map (Some field) = field.line

-- ---- words

abbrev pub label_of : Option Shown → List ℕ
label_of None = []
label_of (Some field) = codes " " ++ label_text field

-- the map's name, the field, and the line
abbrev pub head_text : Sheet → Option Shown → List ℕ
head_text map field = printed_codes map.name ++ (label_of field ++ (codes " line " ++ (decimal (line_of map field) ++ codes ": ")))

-- another field, and its line
abbrev pub other_text : Shown → List ℕ
other_text field = label_text field ++ (codes " line " ++ decimal field.line)

unfoldable pub lead_text : List ℕ
lead_text = codes "M1 overlaps "

abbrev pub overlapped_text : Shown → List ℕ
overlapped_text other = lead_text ++ other_text other

abbrev pub overlapping_text : Option Shown → List ℕ
overlapping_text None = lead_text
overlapping_text (Some other) = overlapped_text other

unfoldable pub past_text : ℕ → List ℕ
past_text by = codes "M2 past the end by " ++ decimal by

abbrev pub overlap_text : Sheet → Overlap → List ℕ
overlap_text map (Overlaps index other) = overlapping_text (slice_get map.fields other)
overlap_text map (PastEnd index by) = past_text by

abbrev pub words_of : Sheet → List Declared → MapFinding → List ℕ
words_of map entries (Overlapping overlap) = overlap_text map overlap
words_of map entries (Found finding) = finding_text entries finding

-- what is found, with where it is
abbrev pub map_words : Sheet → List Declared → MapFinding → List ℕ
map_words map entries finding = head_text map (field_of map entries finding) ++ words_of map entries finding

-- ---- lines

abbrev pub map_line : Sheet → List Declared → MapFinding → List ℕ
map_line map entries finding = map_words map entries finding ++ codes "\n"

abbrev pub yes_line : Sheet → List ℕ
yes_line map = head_text map None ++ codes "yes\n"

-- yes, or a line for each finding
abbrev pub lines_of : Sheet → List Declared → List MapFinding → List ℕ
lines_of map entries [] = yes_line map
lines_of map entries (finding ∷ findings) = flat_map (map_line map entries) (finding ∷ findings)
