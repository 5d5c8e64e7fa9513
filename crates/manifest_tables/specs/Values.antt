-- What a key of a table holds, by the key's text and what is told of a flaw at it.
use Rattle.std.specs.Prelude.{ℕ, Bool, true, not, ◌&&◌, ◌==◌, nat_le, bytes_eq, List, length, Option, ok_or, Result}
use Rattle.std.specs.List.{list_any, list_all}
use Rattle.toml.specs.Data.{Data, Members, no_members, member, get_member, as_str}
use Rattle.manifest_tables.specs.declared.key.Flaw.{Flaw}
use Rattle.manifest_tables.specs.declared.key.Flaw.TheVariants.{MissingKey, WrongKind, UnknownKey, BadText}
use Rattle.manifest_tables.specs.Results.{◌>>=◌, tested}

-- the value of a key, if it is there
abbrev pub value_at : List ℕ → Members → Option Data
value_at key table = get_member key table

-- the value of a key that has to be there
abbrev pub needed_at : {F : Type 0} → List ℕ → (Flaw → F) → Members → Result Data F
needed_at key told table = ok_or (value_at key table) (told MissingKey)

-- no control character
abbrev pub is_plain_byte : ℕ → Bool
is_plain_byte byte = nat_le 32 byte && not (byte == 127)

-- some bytes, and none of a control character
abbrev pub is_plain : List ℕ → Bool
is_plain text = nat_le 1 (length text) && list_all is_plain_byte text

-- the text that the value is
unfoldable pub text_of : {F : Type 0} → (Flaw → F) → Data → Result (List ℕ) F
text_of told value = ok_or (as_str value) (told WrongKind) >>= λ text. tested (is_plain text) text (told BadText)

-- the text of a key that has to be there
unfoldable pub needed_text : {F : Type 0} → List ℕ → (Flaw → F) → Members → Result (List ℕ) F
needed_text key told table = needed_at key told table >>= text_of told

-- the text is one of the keys
abbrev pub is_key : {K : Type 0} → (K → List ℕ) → List K → List ℕ → Bool
is_key text keys word = list_any (λ key. bytes_eq word (text key)) keys

-- each key of the table is one of these
abbrev pub has_only : {K : Type 0} → (K → List ℕ) → List K → Members → Bool
has_only text keys no_members = true
has_only text keys (member word value rest) = is_key text keys word && has_only text keys rest

-- the table, if it has no other keys
abbrev pub with_only : {K F : Type 0} → (K → List ℕ) → (Flaw → F) → List K → Members → Result Members F
with_only text told keys table = tested (has_only text keys table) table (told UnknownKey)
