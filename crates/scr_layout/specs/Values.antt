-- What a key of a table holds, each with the fault where it doesn't.
use Rattle.std.specs.Prelude.{ℕ, ℤ, pos, negsuc, Bool, true, ◌&&◌, nat_le, bytes_eq, if◌then◌else◌, List, Option, Some, None, ok_or, Result}
use Rattle.std.specs.List.{list_any}
use Rattle.toml.specs.Data.{Data, Members, no_members, member, get_member, as_str, as_integer}
use Rattle.scr_layout.specs.declared.fault.LayoutKey.{LayoutKey}
use Rattle.scr_layout.specs.declared.fault.LayoutKey.TheVariants.{Unknown}
use Rattle.scr_layout.specs.declared.fault.LayoutFault.{LayoutFault}
use Rattle.scr_layout.specs.declared.fault.Why.TheVariants.{MissingKey, WrongKind, UnknownKey}
use Rattle.scr_layout.specs.Fault.{key_text, at_key}
use Rattle.scr_layout.specs.Results.{tested}

-- the value of a key, if it is there
abbrev pub value_at : LayoutKey → Members → Option Data
value_at key table = get_member (key_text key) table

-- the value of a key that has to be there
abbrev pub needed_at : LayoutKey → Members → Result Data LayoutFault
needed_at key table = ok_or (value_at key table) (at_key key MissingKey)

-- the text that the value is
abbrev pub text_of : LayoutKey → Data → Result (List ℕ) LayoutFault
text_of key value = ok_or (as_str value) (at_key key WrongKind)

-- the integer that the value is
abbrev pub integer_of : LayoutKey → Data → Result ℤ LayoutFault
integer_of key value = ok_or (as_integer value) (at_key key WrongKind)

-- the integer, if it is one of 1 to most
abbrev pub from_one_to : ℕ → ℤ → Option ℕ
from_one_to most (pos n) = if nat_le 1 n && nat_le n most then Some n else None
from_one_to most (negsuc n) = None

-- the text is one of the keys
abbrev pub is_key : List LayoutKey → List ℕ → Bool
is_key keys text = list_any (λ key. bytes_eq text (key_text key)) keys

-- each key of the table is one of these
abbrev pub has_only : List LayoutKey → Members → Bool
has_only keys no_members = true
has_only keys (member text value rest) = is_key keys text && has_only keys rest

-- the table, if it has no other keys
abbrev pub with_only : List LayoutKey → Members → Result Members LayoutFault
with_only keys table = tested (has_only keys table) table (at_key Unknown UnknownKey)
