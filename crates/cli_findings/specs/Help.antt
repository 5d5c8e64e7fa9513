-- What to do about a finding: the change that ends it, where one is known.
use Rattle.std.specs.Prelude.{ℕ, List, ◌++◌, codes, map, slice_get, Option, Some, None, option_map}
use Rattle.std.specs.Fmt.{decimal}
use Rattle.hex.specs.Hex.{encode_upper}
use Rattle.ds_codec.specs.declared.size.Mode.{Mode}
use Rattle.ds_codec.specs.declared.size.Size.{Size}
use Rattle.ds_codec.specs.Address.{written_address}
use Rattle.ds_codec.specs.Geometry.{cells_of}
use Rattle.scr_layout.specs.declared.entry.Kind.{Kind}
use Rattle.scr_layout.specs.declared.entry.Kind.TheVariants.{Input, Fixed}
use Rattle.scr_layout.specs.Entry.{Declared}
use Rattle.scr_layout.specs.Layout.{Declaration}
use Rattle.scr_check.specs.declared.finding.Overlong.{Overlong}
use Rattle.scr_check.specs.declared.finding.Finding.{Finding}
use Rattle.scr_check.specs.declared.finding.Finding.TheVariants.{NotAWrite, Undeclared, UndeclaredFixed, Missing, TooLong, OtherKind, EmptyModified, CursorDependent, Selectable}
use Rattle.scr_check.specs.declared.origins.Origin.{Origin}
use Rattle.scr_check.specs.declared.traced.Traced.{Traced}
use Rattle.scr_check.specs.FindingText.{name_at}
use Rattle.scr_check.specs.Traced.{attribute_place}
use Rattle.cli_findings.specs.FieldName.{field_name}
use Rattle.cli_findings.specs.Facts.{row_at, column_at}
use Rattle.cli_findings.specs.Rule.{rule_of, change_of}

-- ---- a field without an entry

abbrev pub names_in : List Declared → List (List ℕ)
names_in entries = map (λ entry. entry.name) entries

-- the keys of an entry for a field at a place, but for its length; the name is one that no entry has
abbrev pub entry_keys : List Declared → Size → ℕ → List ℕ
entry_keys entries size place =
    codes "name = \"" ++ (field_name (names_in entries) place ++ (codes "\", row = " ++ (decimal (row_at size place) ++ (codes ", col = " ++ decimal (column_at size place)))))

abbrev pub undeclared_help : List Declared → Size → ℕ → List ℕ
undeclared_help entries size place = codes "declare it by [[field]], " ++ (entry_keys entries size place ++ codes " and its length, or protect it")

abbrev pub modified_help : Size → ℕ → List ℕ
modified_help size place = codes "reset bit 01, the modified data tag, of the attribute at " ++ decimal (attribute_place size place)

abbrev pub selectable_help : Size → ℕ → List ℕ
selectable_help size place =
    codes "reset bits 0C, display, of the attribute at " ++ (decimal (attribute_place size place) ++ codes ", or begin the field with another character than ?, >, &, space and null")

abbrev pub undeclared_fixed_help : List Declared → Size → ℕ → List ℕ
undeclared_fixed_help entries size place =
    modified_help size place ++ (codes ", or declare it by [[field]], " ++ (entry_keys entries size place ++ codes ", kind = \"fixed\" and its length"))

-- ---- an entry

-- an attribute at a place, which these digits spell, and a character, in whose place another attribute may stand
unfoldable pub missing_text : ℕ → List ℕ → List ℕ → List ℕ
missing_text attribute digits name =
    codes "write an attribute at " ++ (decimal attribute ++ (codes ", by Set Buffer Address 11" ++ (digits ++ (codes ", and a character after it, or correct row and col of " ++ name))))

abbrev pub address_digits : Mode → Size → ℕ → List ℕ
address_digits mode size address = encode_upper (written_address mode (cells_of size) address)

-- the attribute stands one position before the entry's place; its address is as Set Buffer Address spells it
abbrev pub missing_help : Mode → Size → Declared → List ℕ
missing_help mode size entry =
    missing_text (attribute_place size entry.place) (address_digits mode size (attribute_place size entry.place)) entry.name

-- an attribute where the entry's first character belongs
unfoldable pub no_cell_text : ℕ → List ℕ → List ℕ
no_cell_text place name =
    codes "write a character in place of the attribute at " ++ (decimal place ++ (codes ", or correct row and col of " ++ name))

-- where an attribute stands before the entry's place, as a field of it ends somewhere, that field has no cell
abbrev pub absent_help : Mode → Size → Option Origin → Declared → List ℕ
absent_help mode size None entry = missing_help mode size entry
absent_help mode size (Some end) entry = no_cell_text entry.place entry.name

abbrev pub too_long_help : List ℕ → Overlong → List ℕ
too_long_help name found =
    codes "declare length = " ++ (decimal found.length ++ (codes " for " ++ (name ++ (codes ", or end the field by an attribute after "
    ++ (decimal found.declared ++ codes " cells")))))

-- the other kind, and the bit of the attribute
abbrev pub kind_words : Kind → List ℕ
kind_words Input = codes " as kind = \"fixed\", or reset bit 20, protected, of the attribute at "
kind_words Fixed = codes " as kind = \"input\", or set bit 20, protected, of the attribute at "

abbrev pub other_kind_help : Size → Declared → List ℕ
other_kind_help size entry = codes "declare " ++ (entry.name ++ (kind_words entry.kind ++ decimal (attribute_place size entry.place)))

-- ---- a record

abbrev pub leave_out_help : ℕ → List ℕ
leave_out_help index = codes "leave record " ++ (decimal index ++ codes " out")

abbrev pub begin_help : ℕ → List ℕ
begin_help index = codes "begin the orders of record " ++ (decimal index ++ codes " with Set Buffer Address, 11")

-- ---- a finding

abbrev pub entry_help : Declaration → Option Origin → Finding → Option (List ℕ)
entry_help layout end (Missing index) = option_map (absent_help layout.geometry.mode layout.size end) (slice_get layout.entries index)
entry_help layout end (OtherKind index) = option_map (other_kind_help layout.size) (slice_get layout.entries index)
entry_help layout end (TooLong found) = Some (too_long_help (name_at layout.entries found.entry) found)
entry_help layout end finding = None

abbrev pub field_help : Declaration → Option Origin → Finding → Option (List ℕ)
field_help layout end (Undeclared place demo) = Some (undeclared_help layout.entries layout.size place)
field_help layout end (UndeclaredFixed place demo) = Some (undeclared_fixed_help layout.entries layout.size place)
field_help layout end (EmptyModified place) = Some (modified_help layout.size place)
field_help layout end (Selectable place) = Some (selectable_help layout.size place)
field_help layout end finding = entry_help layout end finding

-- what is built of a finding's own numbers and names
abbrev pub built_help : Declaration → Option Origin → Finding → Option (List ℕ)
built_help layout end (NotAWrite index) = Some (leave_out_help index)
built_help layout end (CursorDependent index) = Some (begin_help index)
built_help layout end finding = field_help layout end finding

-- the change of a rule, else this one
abbrev pub change_or : Option (List ℕ) → Option (List ℕ) → Option (List ℕ)
change_or None built = built
change_or (Some words) built = Some words

-- what ends a finding of a field that ends there: what its rule's row has, or what is built; how a record that is refused is mended neither tells
abbrev pub help_for : Declaration → Option Origin → Finding → Option (List ℕ)
help_for layout end finding = change_or (change_of (rule_of finding)) (built_help layout end finding)

abbrev pub help_of : Declaration → Traced → Option (List ℕ)
help_of layout traced = help_for layout traced.end traced.finding
