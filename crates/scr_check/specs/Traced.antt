-- The orders that a finding comes from.
use Rattle.std.specs.Prelude.{ℕ, List, slice_get, Option, Some, None, option_map, option_and_then, Result, Ok, Err}
use Rattle.ds_codec.specs.declared.size.Size.{Size}
use Rattle.ds_codec.specs.Geometry.{cells_of}
use Rattle.ds_screen.specs.declared.field.FieldAt.{FieldAt}
use Rattle.ds_screen.specs.Ring.{ring_on, ring_back}
use Rattle.ds_screen.specs.Picture.{Picture}
use Rattle.ds_screen.specs.Fields.{field_there}
use Rattle.scr_layout.specs.Entry.{Declared}
use Rattle.scr_layout.specs.Layout.{Declaration}
use Rattle.scr_check.specs.declared.finding.Finding.{Finding}
use Rattle.scr_check.specs.declared.finding.Finding.TheVariants.{Undeclared, UndeclaredFixed, Missing, TooLong, OtherKind, EmptyModified, Selectable}
use Rattle.scr_check.specs.declared.origins.Origin.{Origin}
use Rattle.scr_check.specs.declared.traced.Traced.{Traced}
use Rattle.scr_check.specs.Opening.{opening_of}
use Rattle.scr_check.specs.Origins.{origin_of}

-- ---- where it is

-- the position of the attribute that begins a field at a place
abbrev pub attribute_place : Size → ℕ → ℕ
attribute_place size place = ring_back (cells_of size) place 1

abbrev pub entry_place : List Declared → ℕ → Option ℕ
entry_place entries index = option_map (λ entry. entry.place) (slice_get entries index)

-- the place of the field or of the entry that a finding is about
abbrev pub place_found : List Declared → Finding → Option ℕ
place_found entries (Undeclared place demo) = Some place
place_found entries (UndeclaredFixed place demo) = Some place
place_found entries (EmptyModified place) = Some place
place_found entries (Selectable place) = Some place
place_found entries (Missing index) = entry_place entries index
place_found entries (OtherKind index) = entry_place entries index
place_found entries (TooLong found) = entry_place entries found.entry
place_found entries finding = None

-- the position where the attribute of that field stands, or is missing
abbrev pub attribute_found : Declaration → Finding → Option ℕ
attribute_found layout finding = option_map (attribute_place layout.size) (place_found layout.entries finding)

-- the position after a field's last cell, of n: there stands the attribute that ends it
abbrev pub end_position : ℕ → FieldAt → ℕ
end_position n field = ring_on n field.place field.length

-- the position of the attribute that ends the field of the attribute at q, if one stands at q
abbrev pub ended_on : Picture → ℕ → Option ℕ
ended_on v q = option_map (end_position (cells_of v.size)) (field_there v.cells q)

-- ---- where that comes from

-- what is told of the end of the field of the attribute at a position, on the screen that is opened, if there are both
abbrev pub end_from : (ℕ → Option Origin) → Result Picture Finding → Option ℕ → Option Origin
end_from origins (Err finding) attribute = None
end_from origins (Ok v) attribute = option_and_then origins (option_and_then (ended_on v) attribute)

-- a finding, by what is told of each position and by the screen that is opened
abbrev pub traced_by : (ℕ → Option Origin) → Result Picture Finding → Declaration → Finding → Traced
traced_by origins opened layout finding =
    record {
      finding = finding;
      origin = option_and_then origins (attribute_found layout finding);
      end = end_from origins opened (attribute_found layout finding);
    }

-- a finding, with the order that wrote last where its attribute stands or is missing, and the one that wrote last where
-- its field ends
abbrev pub traced_of : Declaration → List (List ℕ) → Finding → Traced
traced_of layout records finding = traced_by (origin_of layout records) (opening_of layout records) layout finding
