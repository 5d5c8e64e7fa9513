-- Fields that overlap, or go past the end of their map.
use Rattle.std.specs.List.{flat_map, range_with_len}
use Rattle.std.specs.Prelude.{◌≡◌, ◌≤◌, ◌<◌, ℕ, zero, suc, ◌+◌, ◌-◌, ◌*◌, ◌/◌, ◌%◌, ◌^◌, min, Bool, ◌&&◌, ◌||◌, ◌==◌, not, nat_le, nat_lt, List, [], ◌∷◌, ◌++◌, length, slice_get, Option, Some, None, if◌then◌else◌}
use Rattle.ds_codec.specs.Attribute.{is_protected, is_modified}
use Rattle.bms_map.specs.Maps.{Ground, Shown, Sheet}
use Rattle.bms_map.specs.declared.overlap.Overlap.{Overlap}
use Rattle.bms_map.specs.declared.overlap.Overlap.TheVariants.{Overlaps, PastEnd}

-- an operator can type there
abbrev pub is_input : Shown → Bool
is_input field = not (is_protected field.attribute)

-- it has a label, and an operator can type there or it is modified
abbrev pub is_declared : Shown → Bool
is_declared field = not (length field.label == 0) && (is_input field || is_modified field.attribute)

-- the position on the screen of a place of a map, counted from 0, line by line
abbrev pub cell_in : Ground → ℕ → ℕ
cell_in area index = (area.top + index / area.columns) * area.screen.cols + area.left + index % area.columns

abbrev pub last_of : Ground → ℕ
last_of area = cell_in area (area.lines * area.columns - 1)

-- the position of a field's last character, not counted round the screen's end
abbrev pub end_of : Shown → ℕ
end_of field = min (field.cell + field.length) (2 ^ 32 - 1)

abbrev pub end_in : Option Shown → ℕ
end_in None = 0
end_in (Some field) = end_of field

abbrev pub cell_of : Option Shown → ℕ
cell_of None = 0
cell_of (Some field) = field.cell

-- the nearest of the first so many fields that reaches to a position
abbrev pub nearest : List Shown → ℕ → ℕ → Option ℕ
nearest fields cell zero = None
nearest fields cell (suc i) = if nat_le cell (end_in (slice_get fields i)) then Some i else nearest fields cell i

abbrev pub overlapping : ℕ → Option ℕ → List Overlap
overlapping index None = []
overlapping index (Some other) = Overlaps index other ∷ []

abbrev pub past_end : ℕ → ℕ → ℕ → List Overlap
past_end index last end = if nat_lt last end then PastEnd index (end - last) ∷ [] else []

-- of one field: its attribute stands in one before it; it goes past the map's last position
abbrev pub overlaps_at : List Shown → ℕ → ℕ → List Overlap
overlaps_at fields last index =
    overlapping index (nearest fields (cell_of (slice_get fields index)) index) ++ past_end index last (end_in (slice_get fields index))

abbrev pub overlaps_of : Sheet → List Overlap
overlaps_of map = flat_map (overlaps_at map.fields (last_of map.area)) (range_with_len 0 (length map.fields))

-- ---- the same without a search

-- the last of the first so many fields that reaches to a position: it does, and none between does; or none of them does
abbrev pub IsNearest : List Shown → ℕ → ℕ → Option ℕ → Type 0
IsNearest fields cell count None = (i : ℕ) → i < count → end_in (slice_get fields i) < cell
IsNearest fields cell count (Some other) =
    (other < count) × (cell ≤ end_in (slice_get fields other)) × ((i : ℕ) → other < i → i < count → end_in (slice_get fields i) < cell)

-- of each field in turn the nearest before it that reaches to its attribute, and by how much it goes past the end
abbrev pub AreOverlaps : Sheet → List Overlap → Type 0
AreOverlaps map found =
    (near : ℕ → Option ℕ)
    × ((i : ℕ) → i < length map.fields → IsNearest map.fields (cell_of (slice_get map.fields i)) i (near i))
    × (found ≡ flat_map (λ i. overlapping i (near i) ++ past_end i (last_of map.area) (end_in (slice_get map.fields i))) (range_with_len 0 (length map.fields)))

abbrev pub OverlapsAreNearest : Type 0
OverlapsAreNearest = (map : Sheet) → AreOverlaps map (overlaps_of map)

-- and there is one answer
abbrev pub NearestIsOne : Type 0
NearestIsOne = (fields : List Shown) (cell count : ℕ) (one other : Option ℕ) → IsNearest fields cell count one → IsNearest fields cell count other → one ≡ other
