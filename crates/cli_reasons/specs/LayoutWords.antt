-- What is said of a key of a layout that is refused.
use Rattle.std.specs.Prelude.{ℕ, List, [], ◌++◌, codes}
use Rattle.scr_layout.specs.declared.fault.LayoutKey.{LayoutKey}
use Rattle.scr_layout.specs.declared.fault.LayoutKey.TheVariants.{Unknown, Version, Addresses, Default, Alternate, Screen, Field, Name, Kind}
use Rattle.scr_layout.specs.declared.fault.Why.{Why}
use Rattle.scr_layout.specs.declared.fault.Why.TheVariants.{NotToml, MissingKey, WrongKind, UnknownKey, BadSize, BadName, NameTwice, PlaceOutside, PlaceTwice, BadLength, TooManyFields, BadCount}
use Rattle.scr_layout.specs.Fault.{key_text}
use Rattle.cli_reasons.specs.Shown.{quoted}

-- what a key takes
abbrev pub kind_words : LayoutKey → List ℕ
kind_words Version = codes "1 or 2"
kind_words Addresses = codes "14 or 16"
kind_words Screen = codes "\"default\" or \"alternate\""
kind_words Kind = codes "\"input\" or \"fixed\""
kind_words Field = codes "tables, each begun by [[field]]"
kind_words Default = codes "a text between quotes"
kind_words Alternate = codes "a text between quotes"
kind_words Name = codes "a text between quotes"
kind_words Unknown = codes "nothing"
kind_words key = codes "a whole number"

-- what is said after the key's name
abbrev pub fault_words : Why → List ℕ
fault_words NotToml = codes " is no TOML"
fault_words MissingKey = codes " is missing in this field"
fault_words WrongKind = codes " takes "
fault_words UnknownKey = codes " is no key"
fault_words BadSize = codes " takes a size of a terminal, as \"24x80\""
fault_words BadName = codes " takes 1 to 32 letters, digits, '-' and '_'"
fault_words NameTwice = codes " is that of an earlier field"
fault_words PlaceOutside = codes " is outside the screen"
fault_words PlaceTwice = codes ": an earlier field begins at this place"
fault_words BadLength = codes " is from 1 to the cells of the screen less 1"
fault_words TooManyFields = codes ": more than 1,000 fields"
fault_words BadCount = codes " is from 1 to 255"

abbrev pub kind_after : LayoutKey → Why → List ℕ
kind_after key WrongKind = kind_words key
kind_after key why = []

-- why a key is refused
abbrev pub key_reason : LayoutKey → Why → List ℕ
key_reason key why = (quoted (key_text key) ++ fault_words why) ++ kind_after key why
