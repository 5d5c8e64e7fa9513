-- What is refused of a layout, and the words that are printed of it.
use Rattle.std.specs.Prelude.{codes, decimal, ℕ, List, [], ◌++◌, Option, Some, None}
use Rattle.scr_layout.specs.declared.fault.LayoutKey.{LayoutKey}
use Rattle.scr_layout.specs.declared.fault.LayoutKey.TheVariants.{Unknown, Version, Addresses, Default, Alternate, Screen, Field, Name, Row, Col, Length, Kind, Count, Down}
use Rattle.scr_layout.specs.declared.fault.Why.{Why}
use Rattle.scr_layout.specs.declared.fault.Why.TheVariants.{NotToml, MissingKey, WrongKind, UnknownKey, BadSize, BadName, NameTwice, PlaceOutside, PlaceTwice, BadLength, TooManyFields, BadCount}
use Rattle.scr_layout.specs.declared.fault.LayoutFault.{LayoutFault}

-- the words for each refusal
abbrev pub refusal_text : Why → List ℕ
refusal_text NotToml = codes "L1 NotToml"
refusal_text MissingKey = codes "L2 MissingKey"
refusal_text WrongKind = codes "L3 WrongKind"
refusal_text UnknownKey = codes "L4 UnknownKey"
refusal_text BadSize = codes "L5 BadSize"
refusal_text BadName = codes "L6 BadName"
refusal_text NameTwice = codes "L7 NameTwice"
refusal_text PlaceOutside = codes "L8 PlaceOutside"
refusal_text PlaceTwice = codes "L9 PlaceTwice"
refusal_text BadLength = codes "L10 BadLength"
refusal_text TooManyFields = codes "L11 TooManyFields"
refusal_text BadCount = codes "L12 BadCount"

-- a key as it stands in the text
abbrev pub key_text : LayoutKey → List ℕ
key_text Unknown = codes "unknown"
key_text Version = codes "version"
key_text Addresses = codes "addresses"
key_text Default = codes "default"
key_text Alternate = codes "alternate"
key_text Screen = codes "screen"
key_text Field = codes "field"
key_text Name = codes "name"
key_text Row = codes "row"
key_text Col = codes "col"
key_text Length = codes "length"
key_text Kind = codes "kind"
key_text Count = codes "count"
key_text Down = codes "down"

-- the key, behind a space
abbrev pub which_text : Option LayoutKey → List ℕ
which_text None = []
which_text (Some key) = codes " " ++ key_text key

-- the field, counted from 0
abbrev pub field_text : Option ℕ → List ℕ
field_text None = []
field_text (Some n) = codes " in field " ++ decimal n

-- as `L8 PlaceOutside row in field 0`
abbrev pub fault_text : LayoutFault → List ℕ
fault_text f = refusal_text f.why ++ (which_text f.which ++ field_text f.field)

-- the text is no TOML
abbrev pub not_toml : LayoutFault
not_toml = record { field = None; which = None; why = NotToml }

-- a key at fault
abbrev pub at_key : LayoutKey → Why → LayoutFault
at_key key why = record { field = None; which = Some key; why = why }

-- the same in a field
abbrev pub in_field : ℕ → LayoutFault → LayoutFault
in_field n fault = record fault { field = Some n }
