-- The layout that a map's own says.
use Rattle.std.specs.Prelude.{◌≡◌, ℕ, Bool, true, false, List, [], ◌++◌, codes, map, Ok}
use Rattle.std.specs.List.{filter}
use Rattle.bms_source.specs.Printed.{printed_codes}
use Rattle.bms_map.specs.Fit.{Each}
use Rattle.bms_map.specs.LayoutText.{layout_text, lower, numbered, place_of}
use Rattle.bms_map.specs.Maps.{Shown, Sheet}
use Rattle.bms_map.specs.Mapset.{maps_of}
use Rattle.bms_map.specs.Overlaps.{is_declared, is_input}
use Rattle.scr_layout.specs.declared.entry.Kind.{Kind}
use Rattle.scr_layout.specs.declared.entry.Kind.TheVariants.{Input, Fixed}
use Rattle.scr_layout.specs.Entry.{Declared}
use Rattle.scr_layout.specs.Layout.{Declaration, layout_of}
use Rattle.scr_layout.specs.Says.{TextSays}
use Rattle.cli_maps.specs.Screen.{sizes_of}

-- an operator can type into it, or its modified data tag is set
abbrev pub kind_if : Bool → Kind
kind_if true = Input
kind_if false = Fixed

-- its label or its group's name in lower case, with the number of an occurrence
abbrev pub name_of : Shown → List ℕ
name_of field = printed_codes (map lower field.label) ++ numbered (codes "-") [] field.occurrence

abbrev pub entry_of : Sheet → Shown → Declared
entry_of it field = record { name = name_of field; place = place_of it field; length = field.length; kind = kind_if (is_input field) }

-- the named fields that are inputs, or modified, in the order of their attributes
abbrev pub declared_fields : Sheet → List Shown
declared_fields it = filter is_declared it.fields

abbrev pub declaration_of : Sheet → Declaration
declaration_of it = record { geometry = sizes_of it; size = it.area.screen; entries = map (entry_of it) (declared_fields it) }

-- the text of a map's layout says it: it is a layout, and is read as this one
pub record IsRead (it : Sheet) : Type 0 where
  pub says : TextSays (layout_text it) (declaration_of it)
  pub read : layout_of (layout_text it) ≡ Ok (declaration_of it)

-- so it is of each map of whatever source
abbrev pub LayoutsAreRead : Type 0
LayoutsAreRead = (source : List ℕ) (maps : List Sheet) → maps_of source ≡ Ok maps → Each IsRead maps
