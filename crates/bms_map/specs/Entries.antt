-- The fields of a map as its macros tell them, and what is shown of them.
use Rattle.std.specs.List.Sorted.{IsPermutation}
use Rattle.std.specs.Prelude.{◌≤◌, ℕ, ◌+◌, ◌-◌, ◌*◌, ◌/◌, ◌%◌, ◌^◌, min, Bool, true, false, not, ◌&&◌, ◌==◌, nat_lt, List, [], ◌∷◌, ◌++◌, map, length, replicate, sum, Option, Some, None, if◌then◌else◌}
use Rattle.std.specs.List.{flat_map, range_with_len}
use Rattle.bms_map.specs.declared.field.Looks.{Looks}
use Rattle.ds_codec.specs.Address.{six_bit_code}
use Rattle.bms_map.specs.Maps.{Ground, LaterText, Shown, Sheet}
use Rattle.bms_map.specs.LayoutText.{lower}
use Rattle.bms_map.specs.Overlaps.{cell_in}
use Rattle.bms_map.specs.Lookup.{or_else}

-- a DFHMDF: its place counts from 0 in its map
pub record Entry : Type 0 where
  pub label : List ℕ
  pub group : Option (List ℕ)
  -- it goes on with the group of the one before it
  pub is_later : Bool
  pub index : ℕ
  pub length : ℕ
  pub occurs : ℕ
  pub text : Option (List ℕ)
  pub attribute : ℕ
  pub has_cursor : Bool
  pub looks : Looks
  pub line : ℕ

-- the place of an occurrence, both counted from 0
abbrev pub index_at : Entry → ℕ → ℕ
index_at entry k = entry.index + k * (entry.length + 1)

-- ---- its names

-- the same characters
abbrev pub same : List ℕ → List ℕ → Bool
same [] [] = true
same [] (b ∷ bs) = false
same (a ∷ as_) [] = false
same (a ∷ as_) (b ∷ bs) = (a == b) && same as_ bs

abbrev pub label_name : List ℕ → List (List ℕ)
label_name [] = []
label_name (c ∷ cs) = map lower (c ∷ cs) ∷ []

abbrev pub group_name : Option (List ℕ) → List (List ℕ)
group_name None = []
group_name (Some group) = map lower group ∷ []

-- the layout names of a field: that of its label, and that of the group that it begins
abbrev pub names_in : Entry → List (List ℕ)
names_in entry = label_name entry.label ++ (if entry.is_later then [] else group_name entry.group)

abbrev pub names_of : List Entry → List (List ℕ)
names_of entries = flat_map names_in entries

-- ---- its attributes

abbrev pub cells_from : Ground → Entry → List ℕ
cells_from area entry = map (λ k. cell_in area (index_at entry k)) (range_with_len 0 entry.occurs)

-- the positions of its attributes: a later field of a group has none
abbrev pub attributes_in : Ground → Entry → List ℕ
attributes_in area entry = if entry.is_later then [] else cells_from area entry

abbrev pub attributes_of : Ground → List Entry → List ℕ
attributes_of area entries = flat_map (attributes_in area) entries

-- ---- its text

-- with blanks up to a length
abbrev pub padded : Option (List ℕ) → ℕ → List ℕ
padded None length_ = []
padded (Some text) length_ = text ++ replicate (length_ - length text) 0x40

abbrev pub text_of : Entry → List ℕ
text_of entry = padded entry.text entry.length

-- ---- its bytes in the record

abbrev pub has_effect : Option ℕ → Bool
has_effect None = false
has_effect (Some value) = not (value == 0)

abbrev pub effect : Option ℕ → ℕ
effect value = if has_effect value then 1 else 0

-- how many pairs are written besides the attribute
abbrev pub effects : Looks → ℕ
effects looks = effect looks.highlight + effect looks.color + effect looks.validation + effect looks.outline

abbrev pub pairs_size : ℕ → ℕ
pairs_size pairs = if pairs == 0 then 2 else 4 + 2 * pairs

-- the bytes of one occurrence: an address, the attribute with its pairs, and the text
abbrev pub occurrence_size : Entry → ℕ
occurrence_size entry = 3 + pairs_size (effects entry.looks) + length (text_of entry)

-- a later field has an address and its text, if it has one
abbrev pub later_size : ℕ → ℕ
later_size characters = if characters == 0 then 0 else 3 + characters

abbrev pub size_in : Entry → ℕ
size_in entry = if entry.is_later then later_size (length (text_of entry)) else entry.occurs * occurrence_size entry

abbrev pub size_of : List Entry → ℕ
size_of entries = sum (map size_in entries)

-- ---- what is shown

abbrev pub pair_if : ℕ → Option ℕ → List ℕ
pair_if kind None = []
pair_if kind (Some value) = if value == 0 then [] else kind ∷ value ∷ []

-- the attribute and the pairs of Start Field Extended; none where it has no pair but the attribute
abbrev pub pairs_of : ℕ → Looks → List ℕ
pairs_of attribute looks =
    if effects looks == 0 then []
    else (0xC0 ∷ six_bit_code attribute ∷ []) ++ (pair_if 0x41 looks.highlight ++ (pair_if 0x42 looks.color ++ (pair_if 0xC1 looks.validation ++ pair_if 0xC2 looks.outline)))

abbrev pub later_if : ℕ → List ℕ → List LaterText
later_if cell [] = []
later_if cell (c ∷ cs) = record { cell = cell + 1; text = c ∷ cs } ∷ []

-- the text of a later field, one position behind the place of POS
abbrev pub later_in : Ground → Entry → List LaterText
later_in area entry = later_if (cell_in area entry.index) (text_of entry)

-- the later fields of a group, which follow its first at once
abbrev pub laters : List Entry → List Entry
laters [] = []
laters (entry ∷ entries) = if entry.is_later then entry ∷ laters entries else []

abbrev pub label_of : Option (List ℕ) → List ℕ → List ℕ
label_of None label = label
label_of (Some group) label = group

abbrev pub number_of : Entry → ℕ → ℕ
number_of entry k = if nat_lt entry.occurs 2 then 0 else k + 1

-- how many characters fields have, as far as they can be counted
abbrev pub total : List Entry → ℕ
total [] = 0
total (entry ∷ entries) = min (entry.length + total entries) (2 ^ 32 - 1)

-- an occurrence, counted from 0, with the later fields of its group
abbrev pub shown_at : Ground → Entry → List Entry → ℕ → Shown
shown_at area entry others k =
    record {
      cell = cell_in area (index_at entry k);
      length = min (entry.length + total others) (2 ^ 32 - 1);
      attribute = entry.attribute;
      pairs = pairs_of entry.attribute entry.looks;
      text = text_of entry;
      later = flat_map (later_in area) others;
      label = label_of entry.group entry.label;
      occurrence = number_of entry k;
      line = entry.line;
      row = index_at entry k / area.columns + 1;
      column = index_at entry k % area.columns + 1;
    }

abbrev pub shown_from : Ground → Entry → List Entry → List Shown
shown_from area entry others = map (shown_at area entry others) (range_with_len 0 entry.occurs)

abbrev pub shown_if : Ground → Entry → List Entry → List Shown
shown_if area entry entries = if entry.is_later then [] else shown_from area entry (laters entries)

-- each occurrence of each field, and of a group its first field alone
abbrev pub shown_of : Ground → List Entry → List Shown
shown_of area [] = []
shown_of area (entry ∷ entries) = shown_if area entry entries ++ shown_of area entries

-- how many of these come before an attribute at a cell
abbrev pub rank_in : List Shown → ℕ → ℕ
rank_in [] cell = 0
rank_in (other ∷ others) cell = if nat_lt cell other.cell then 0 else 1 + rank_in others cell

-- a field among those of which each attribute comes before the next
abbrev pub placed : Shown → List Shown → List Shown
placed field [] = field ∷ []
placed field (other ∷ others) = if nat_lt field.cell other.cell then field ∷ other ∷ others else other ∷ placed field others

abbrev pub placed_all : List Shown → List Shown → List Shown
placed_all done [] = done
placed_all done (field ∷ fields) = placed_all (placed field done) fields

-- in the order of their attributes
abbrev pub in_order : List Shown → List Shown
in_order fields = placed_all [] fields

-- each attribute comes before the next, or stands at the same position
abbrev pub AreRising : List Shown → Type 0
AreRising [] = Unit {0}
AreRising (field ∷ []) = Unit {0}
AreRising (field ∷ other ∷ others) = (field.cell ≤ other.cell) × AreRising (other ∷ others)

-- and no field is lost or added
abbrev pub FieldsAreInOrder : Type 0
FieldsAreInOrder = (fields : List Shown) → AreRising (in_order fields) × IsPermutation fields (in_order fields)

abbrev pub its_cursor : Ground → Entry → Option ℕ
its_cursor area entry = if entry.has_cursor && not entry.is_later then Some (cell_in area (index_at entry (entry.occurs - 1))) else None

-- the attribute of the last field in the source that has the cursor, of its last occurrence
abbrev pub cursor_of : Ground → List Entry → Option ℕ
cursor_of area [] = None
cursor_of area (entry ∷ entries) = or_else (cursor_of area entries) (its_cursor area entry)

-- a DFHMDI and its fields
pub record Section : Type 0 where
  pub name : List ℕ
  pub line : ℕ
  pub area : Ground
  pub control : ℕ
  pub looks : Looks
  pub entries : List Entry

-- the map of a section
abbrev pub sheet_of : Section → Sheet
sheet_of section =
    record {
      name = section.name;
      line = section.line;
      area = section.area;
      control = section.control;
      looks = section.looks;
      fields = in_order (shown_of section.area section.entries);
      cursor = cursor_of section.area section.entries;
    }
