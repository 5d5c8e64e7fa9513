-- What stands against a picture: its fields by their attributes in rising order, then the layout's entries.
use Rattle.std.specs.Prelude.{◌≡◌, ℕ, ◌+◌, ◌<◌, get_or, true, Bool, not, ◌&&◌, ◌==◌, nat_lt, List, [], ◌∷◌, ◌++◌, length, position, option_to_list, Option, Some, None, Result, Ok, Err, slice_get, if◌then◌else◌}
use Rattle.std.specs.List.{flat_map}
use Rattle.ds_codec.specs.declared.cell.Cell.{Cell}
use Rattle.ds_codec.specs.Attribute.{is_protected, is_modified}
use Rattle.ds_screen.specs.declared.field.FieldAt.{FieldAt}
use Rattle.ds_screen.specs.Ring.{ring_back, ring_distance}
use Rattle.ds_screen.specs.Picture.{Picture, cell_at}
use Rattle.ds_screen.specs.Fields.{is_attribute, span_of, fields_of}
use Rattle.scr_layout.specs.declared.entry.Kind.{Kind}
use Rattle.scr_layout.specs.declared.entry.Kind.TheVariants.{Input, Fixed}
use Rattle.scr_layout.specs.Entry.{Declared}
use Rattle.scr_layout.specs.Layout.{Declaration}
use Rattle.scr_check.specs.declared.finding.Demo.{Demo}
use Rattle.scr_check.specs.declared.finding.Finding.{Finding}
use Rattle.scr_check.specs.declared.finding.Finding.TheVariants.{Undeclared, UndeclaredFixed, Missing, TooLong, OtherKind, EmptyModified}
use Rattle.scr_check.specs.Opening.{opening_of}

-- the index of the entry that begins at a place
abbrev pub entry_at : List Declared → ℕ → Option ℕ
entry_at entries place = position (λ entry. place == entry.place) entries

abbrev pub is_of_kind : Kind → ℕ → Bool
is_of_kind Input bits = not (is_protected bits)
is_of_kind Fixed bits = is_protected bits

-- the keys that go from the cursor to a field's first cell and type so many characters
abbrev pub demo_at : Picture → FieldAt → ℕ → Demo
demo_at v field types = record { rights = ring_distance (length v.cells) v.cursor field.place; types = types }

-- Enter alone
abbrev pub no_keys : Demo
no_keys = record { rights = 0; types = 0 }

-- an input is filled; a fixed field may hold less text than it has cells
abbrev pub length_demo : Picture → FieldAt → Kind → Option Demo
length_demo v field Input = Some (demo_at v field field.length)
length_demo v field Fixed = None

-- a field that governs no cell
abbrev pub empty_finding : FieldAt → Option Finding
empty_finding field = if is_modified field.attr then Some (EmptyModified field.place) else None

-- a field that governs cells and has no entry
abbrev pub undeclared_finding : Picture → FieldAt → Option Finding
undeclared_finding v field =
    if not (is_protected field.attr) then Some (Undeclared field.place (demo_at v field 1))
    else (if is_modified field.attr then Some (UndeclaredFixed field.place no_keys) else None)

-- a field that governs cells and has this entry
abbrev pub declared_finding : Picture → FieldAt → ℕ → Declared → Option Finding
declared_finding v field index entry =
    if not (is_of_kind entry.kind field.attr) then Some (OtherKind index)
    else (if nat_lt entry.length field.length
    then Some (TooLong (record { entry = index; length = field.length; declared = entry.length; demo = length_demo v field entry.kind }))
    else None)

abbrev pub at_entry : Picture → FieldAt → ℕ → Option Declared → Option Finding
at_entry v field index None = undeclared_finding v field
at_entry v field index (Some entry) = declared_finding v field index entry

abbrev pub entry_finding : Picture → FieldAt → List Declared → Option ℕ → Option Finding
entry_finding v field entries None = undeclared_finding v field
entry_finding v field entries (Some index) = at_entry v field index (slice_get entries index)

-- the index of the entry of a field, where it governs cells and has one
abbrev pub entry_of : List Declared → FieldAt → Option ℕ
entry_of entries field = if field.length == 0 then None else entry_at entries field.place

-- what stands against a field
unfoldable pub field_finding : List Declared → Picture → FieldAt → Option Finding
field_finding entries v field =
    if field.length == 0 then empty_finding field else entry_finding v field entries (entry_at entries field.place)

-- the position before a place holds an attribute that governs cells
unfoldable pub has_field : List Cell → ℕ → Bool
has_field cells place =
    is_attribute (cell_at cells (ring_back (length cells) place 1)) && nat_lt 0 (length (span_of cells (ring_back (length cells) place 1)))

-- so many of the first entries have a field
abbrev pub HaveFields : List Cell → List Declared → ℕ → Type 0
HaveFields cells entries first = (k : ℕ) (entry : Declared) → k < first → k < length entries → has_field cells (get_or entries k entry).place ≡ true

abbrev pub missing_finding : List Cell → ℕ → Declared → Option Finding
missing_finding cells index entry = if has_field cells entry.place then None else Some (Missing index)

-- the entries from the one of this index on that have no field
abbrev pub missing_from : List Cell → ℕ → List Declared → List Finding
missing_from cells index [] = []
missing_from cells index (entry ∷ entries) = option_to_list (missing_finding cells index entry) ++ missing_from cells (index + 1) entries

unfoldable pub findings_of : Declaration → Picture → List Finding
findings_of layout v =
    flat_map (λ field. option_to_list (field_finding layout.entries v field)) (fields_of v.cells)
    ++ missing_from v.cells 0 layout.entries

abbrev pub told : Declaration → Result Picture Finding → List Finding
told layout (Err finding) = finding ∷ []
told layout (Ok v) = findings_of layout v

-- all that is told of records and a layout
abbrev pub answer_of : Declaration → List (List ℕ) → List Finding
answer_of layout records = told layout (opening_of layout records)

-- the records lead to a picture against which nothing stands
pub record Conforms (layout : Declaration) (records : List (List ℕ)) : Type 0 where
  pub picture : Picture
  pub opens : opening_of layout records ≡ Ok picture
  pub clean : findings_of layout picture ≡ []
