-- The keys at the top of a layout.
use Rattle.std.specs.Prelude.{codes, ℕ, ◌==◌, Bool, true, false, nat_le, bytes_eq, if◌then◌else◌, List, [], ◌∷◌, length, Option, Some, None, ok_or, Result, Ok, Err}
use Rattle.ds_codec.specs.declared.size.Size.{Size}
use Rattle.ds_codec.specs.declared.size.Mode.{Mode}
use Rattle.ds_codec.specs.declared.size.Mode.TheVariants.{Bits14, Bits16}
use Rattle.toml.specs.Data.{Data, table, Items, no_items, item, Members, as_array}
use Rattle.scr_layout.specs.declared.fault.LayoutKey.{LayoutKey}
use Rattle.scr_layout.specs.declared.top.Version.{Version as Keys}
use Rattle.scr_layout.specs.declared.top.Version.TheVariants.{One, Two}
use Rattle.scr_layout.specs.declared.fault.LayoutKey.TheVariants.{Version, Addresses, Default, Alternate, Screen, Field}
use Rattle.scr_layout.specs.declared.fault.LayoutFault.{LayoutFault}
use Rattle.scr_layout.specs.declared.fault.Why.TheVariants.{WrongKind, BadSize, TooManyFields}
use Rattle.scr_layout.specs.Fault.{at_key}
use Rattle.scr_layout.specs.Results.{◌>>=◌, tested}
use Rattle.scr_layout.specs.SizeText.{size_of_text}
use Rattle.scr_layout.specs.Values.{value_at, text_of, integer_of, from_one_to}

abbrev pub top_keys : List LayoutKey
top_keys = Version ∷ Addresses ∷ Default ∷ Alternate ∷ Screen ∷ Field ∷ []

-- the version of this number
abbrev pub numbered_version : Option ℕ → Option Keys
numbered_version None = None
numbered_version (Some number) = if number == 1 then Some One else if number == 2 then Some Two else None

-- the version that the value names by its number
unfoldable pub named_version : Data → Result Keys LayoutFault
named_version value = do
  number ← integer_of Version value
  ok_or (numbered_version (from_one_to 2 number)) (at_key Version WrongKind)

abbrev pub version_or : Option Data → Result Keys LayoutFault
version_or None = Ok One
version_or (Some value) = named_version value

-- `version`: 1 or 2, and 1 where it is absent
unfoldable pub version_of : Members → Result Keys LayoutFault
version_of top = version_or (value_at Version top)

-- the mode of addresses of so many bits
abbrev pub mode_of_bits : Option ℕ → Option Mode
mode_of_bits None = None
mode_of_bits (Some bits) = if bits == 14 then Some Bits14 else if bits == 16 then Some Bits16 else None

-- the mode that the value names by its bits
unfoldable pub named_mode : Data → Result Mode LayoutFault
named_mode value = do
  bits ← integer_of Addresses value
  ok_or (mode_of_bits (from_one_to 16 bits)) (at_key Addresses WrongKind)

abbrev pub mode_or : Option Data → Result Mode LayoutFault
mode_or None = Ok Bits14
mode_or (Some value) = named_mode value

-- `addresses`: of 14 or of 16 bits, of 14 where it is absent
unfoldable pub mode_of : Members → Result Mode LayoutFault
mode_of top = mode_or (value_at Addresses top)

-- the size that the value is
unfoldable pub size_of : Mode → LayoutKey → Data → Result Size LayoutFault
size_of mode key value = do
  text ← text_of key value
  ok_or (size_of_text mode text) (at_key key BadSize)

-- a size, or what stands for it where the key is absent
abbrev pub size_or : Mode → Size → LayoutKey → Option Data → Result Size LayoutFault
size_or mode absent key None = Ok absent
size_or mode absent key (Some value) = size_of mode key value

-- `default`: a size, 24x80 where it is absent
unfoldable pub default_of : Mode → Members → Result Size LayoutFault
default_of mode top = size_or mode (record { rows = 24; cols = 80 }) Default (value_at Default top)

-- `alternate`: a size, the default one where it is absent
unfoldable pub alternate_of : Mode → Size → Members → Result Size LayoutFault
alternate_of mode default top = size_or mode default Alternate (value_at Alternate top)

-- the size that the word names
abbrev pub named_size : Size → Size → List ℕ → Result Size LayoutFault
named_size default alternate word =
    if bytes_eq word (codes "default") then Ok default
    else if bytes_eq word (codes "alternate") then Ok alternate
    else Err (at_key Screen WrongKind)

abbrev pub screen_or : Size → Size → Option Data → Result Size LayoutFault
screen_or default alternate None = Ok default
screen_or default alternate (Some value) = text_of Screen value >>= named_size default alternate

-- `screen`: `"default"` or `"alternate"`, the default one where it is absent
unfoldable pub screen_of : Size → Size → Members → Result Size LayoutFault
screen_of default alternate top = screen_or default alternate (value_at Screen top)

-- the tables among the items, in order
abbrev pub tables_in : Items → List Members
tables_in no_items = []
tables_in (item (table fields) rest) = fields ∷ tables_in rest
tables_in (item _ rest) = tables_in rest

-- each item is a table
abbrev pub are_tables : Items → Bool
are_tables no_items = true
are_tables (item (table fields) rest) = are_tables rest
are_tables (item _ rest) = false

-- the tables that the value is a list of
unfoldable pub tables_of : Data → Result (List Members) LayoutFault
tables_of value = do
  items ← ok_or (as_array value) (at_key Field WrongKind)
  tables ← tested (are_tables items) (tables_in items) (at_key Field WrongKind)
  tested (nat_le (length tables) 1000) tables (at_key Field TooManyFields)

abbrev pub tables_or : Option Data → Result (List Members) LayoutFault
tables_or None = Ok []
tables_or (Some value) = tables_of value

-- `field`: a list of at most 1,000 tables, none where it is absent
unfoldable pub fields_of : Members → Result (List Members) LayoutFault
fields_of top = tables_or (value_at Field top)
