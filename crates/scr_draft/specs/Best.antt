-- What a draft is good for: nothing is found against it that isn't found against every layout.
use Rattle.std.specs.Prelude.{◌≡◌, ℕ, ◌==◌, List, [], option_to_list, Ok, if◌then◌else◌}
use Rattle.std.specs.List.{flat_map}
use Rattle.ds_codec.specs.Geometry.{Sizes}
use Rattle.ds_screen.specs.declared.field.FieldAt.{FieldAt}
use Rattle.ds_screen.specs.Picture.{Picture}
use Rattle.ds_screen.specs.Fields.{fields_of}
use Rattle.scr_layout.specs.Layout.{Declaration, layout_of}
use Rattle.scr_check.specs.declared.finding.Finding.{Finding}
use Rattle.scr_check.specs.Findings.{empty_finding, answer_of, Conforms}
use Rattle.scr_draft.specs.declared.opening.Opened.{Opened}
use Rattle.scr_draft.specs.declared.opening.Opened.TheVariants.{Leads, Stands}
use Rattle.scr_draft.specs.Opened.{opened}

-- a field that governs no cell can't be declared; it is found where it is modified, for then it is sent
abbrev pub left_of : FieldAt → List Finding
left_of field = if field.length == 0 then option_to_list (empty_finding field) else []

-- what is found against every layout
abbrev pub left_over : Picture → List Finding
left_over v = flat_map left_of (fields_of v.cells)

-- Whatever records led to the picture, no more is found against this layout; and if any layout at all conforms to them,
-- this one does.
pub record IsBest (v : Picture) (draft : Declaration) : Type 0 where
  pub left : (records : List (List ℕ)) → opened v.geometry records ≡ Ok v → answer_of draft records ≡ left_over v
  pub best : (layout : Declaration) (records : List (List ℕ)) → opened layout.geometry records ≡ Ok v → Conforms layout records → Conforms draft records

-- a text that says such a layout
abbrev pub SaysBest : Picture → List ℕ → Type 0
SaysBest v text = (draft : Declaration) × (layout_of text ≡ Ok draft) × IsBest v draft

-- where something stands against the records, no layout of this geometry conforms to them
abbrev pub FitsNone : Sizes → List (List ℕ) → Opened → Type 0
FitsNone geometry records (Leads screen) = Unit {0}
FitsNone geometry records (Stands finding) = (layout : Declaration) → layout.geometry ≡ geometry → Conforms layout records → ⊥
