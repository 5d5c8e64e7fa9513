-- The fields that a layout of a picture has to declare, with their names.
use Rattle.std.specs.Prelude.{ℕ, Bool, not, ◌&&◌, ◌||◌, nat_lt, List, [], ◌∷◌, ◌++◌, map, if◌then◌else◌}
use Rattle.std.specs.List.{filter}
use Rattle.ds_codec.specs.declared.cell.Cell.{Cell}
use Rattle.ds_codec.specs.Attribute.{is_protected, is_modified}
use Rattle.ds_screen.specs.declared.field.FieldAt.{FieldAt}
use Rattle.ds_screen.specs.Picture.{Picture}
use Rattle.ds_screen.specs.Fields.{fields_of}
use Rattle.scr_layout.specs.declared.entry.Kind.{Kind}
use Rattle.scr_layout.specs.declared.entry.Kind.TheVariants.{Input, Fixed}
use Rattle.scr_layout.specs.Entry.{Declared}
use Rattle.scr_layout.specs.Layout.{Declaration}
use Rattle.scr_draft.specs.Label.{label_of, label_text}
use Rattle.scr_draft.specs.Name.{form, free_name}

-- a field that governs cells, and that an operator can type into or that is sent as it came
abbrev pub is_drafted : FieldAt → Bool
is_drafted field = nat_lt 0 field.length && (not (is_protected field.attr) || is_modified field.attr)

-- these fields, in rising order of their attributes
abbrev pub drafted_fields : List Cell → List FieldAt
drafted_fields cells = filter is_drafted (fields_of cells)

abbrev pub kind_of : ℕ → Kind
kind_of bits = if is_protected bits then Fixed else Input

-- a field with its name
pub record Named : Type 0 where
  pub name : List ℕ
  pub field : FieldAt

abbrev pub label_before : Picture → FieldAt → List ℕ
label_before v field = label_text v.cells (label_of v.cells v.size.cols field.place)

abbrev pub names_in : List Named → List (List ℕ)
names_in drafts = map (λ d. d.name) drafts

-- a field by its label, or else by its place, unlike those before it
abbrev pub named : Picture → List Named → FieldAt → Named
named v before field =
    record { name = free_name (names_in before) (form v.size.cols field.place (label_before v field)); field = field }

-- the fields, each with its name, behind those before them
abbrev pub drafts_from : Picture → List Named → List FieldAt → List Named
drafts_from v before [] = before
drafts_from v before (field ∷ fields) = drafts_from v (before ++ named v before field ∷ []) fields

abbrev pub drafts_of : Picture → List Named
drafts_of v = drafts_from v [] (drafted_fields v.cells)

-- an entry with the field's place and all of its cells
abbrev pub entry_of : Named → Declared
entry_of d = record { name = d.name; place = d.field.place; length = d.field.length; kind = kind_of d.field.attr }

-- what a draft says: the sizes of the picture, and an entry for each of these fields
abbrev pub declared_by : Picture → Declaration
declared_by v = record { geometry = v.geometry; size = v.size; entries = map entry_of (drafts_of v) }
