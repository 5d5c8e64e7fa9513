-- The structured fields of a record, one after the other.
use Rattle.std.specs.Prelude.{ℕ, zero, suc, ◌+◌, ◌*◌, ◌-◌, ◌==◌, nat_lt, nat_le, Bool, false, ◌&&◌, ◌||◌, List, [], ◌∷◌, length, take, drop, Option, Some, None, option_map, if◌then◌else◌}
use Rattle.ds_structured.specs.declared.field.Wanted as wanted
use Rattle.ds_structured.specs.declared.field.Wanted.TheVariants as wants
use Rattle.ds_structured.specs.declared.field.StructuredField as field
use Rattle.ds_structured.specs.declared.field.StructuredField.TheVariants as fields

-- the replies that a query wants: each, or those of these codes
pub data Wanted : Type 0 where
  each : Wanted
  listed : (codes : List ℕ) → Wanted

-- a query, or a record that is to be obeyed: a command and what follows it
pub data Field : Type 0 where
  query : (wanted : Wanted) → Field
  draw : (bytes : List ℕ) → Field

abbrev pub wanted_seen : wanted.Wanted → Wanted
wanted_seen wants.Each = each
wanted_seen (wants.Listed codes) = listed codes.now

abbrev pub field_seen : field.StructuredField → Field
field_seen (fields.Query wanted) = query (wanted_seen wanted)
field_seen (fields.Draw bytes) = draw bytes.now

-- Query List: 00 wants the replies of the codes that follow, 40 these and what goes with them, 80 each; as 40 wants, each is given
abbrev pub listed_query : ℕ → List ℕ → Option Field
listed_query kind codes =
    if kind == 0x00 then Some (query (listed codes)) else (if (kind == 0x40) || (kind == 0x80) then Some (query each) else None)

-- 02 is Query, 03 Query List
abbrev pub query_of : ℕ → List ℕ → Option Field
query_of operation [] = if operation == 0x02 then Some (query each) else None
query_of operation (kind ∷ codes) = if operation == 0x03 then listed_query kind codes else None

-- Read Partition: a query is of partition FF, the whole terminal
abbrev pub read_partition : List ℕ → Option Field
read_partition (partition ∷ operation ∷ more) = if partition == 0xFF then query_of operation more else None
read_partition _ = None

-- Write, Erase/Write, Erase/Write Alternate and Erase All Unprotected
abbrev pub is_drawing : ℕ → Bool
is_drawing code = ((code == 0xF1) || (code == 0xF5)) || ((code == 0x7E) || (code == 0x6F))

abbrev pub begins_drawing : List ℕ → Bool
begins_drawing [] = false
begins_drawing (code ∷ more) = is_drawing code

-- Outbound 3270DS: a record for partition 0, the only one
abbrev pub outbound : List ℕ → Option Field
outbound [] = None
outbound (partition ∷ bytes) = if (partition == 0x00) && begins_drawing bytes then Some (draw bytes) else None

-- a field after its length: the identifiers 01 and 40
abbrev pub field_of : List ℕ → Option Field
field_of [] = None
field_of (identifier ∷ more) = if identifier == 0x01 then read_partition more else (if identifier == 0x40 then outbound more else None)

-- so many bytes, which its own two are counted among; 0 is all that is left
abbrev pub cut_at : ℕ → List ℕ → Option (List ℕ × List ℕ)
cut_at count more =
    if count == 0 then Some (more, [])
    else (if nat_lt 2 count && nat_le (count - 2) (length more) then Some (take (count - 2) more, drop (count - 2) more) else None)

-- the length at the front, its high byte first
abbrev pub cut : List ℕ → Option (List ℕ × List ℕ)
cut (high ∷ low ∷ more) = cut_at (high * 256 + low) more
cut _ = None

abbrev pub before_rest : List ℕ → Option Field → Option (Field × List ℕ)
before_rest rest None = None
before_rest rest (Some field) = Some (field, rest)

abbrev pub field_cut : Option (List ℕ × List ℕ) → Option (Field × List ℕ)
field_cut None = None
field_cut (Some parts) = before_rest parts.1 (field_of parts.0)

-- the field at the front and what comes after it
abbrev pub split : List ℕ → Option (Field × List ℕ)
split bytes = field_cut (cut bytes)

abbrev pub then_fields : Option (Field × List ℕ) → (List ℕ → Option (List Field)) → Option (List Field)
then_fields None others = None
then_fields (Some found) others = option_map (λ fields. found.0 ∷ fields) (others found.1)

-- so many fields at most
unfoldable pub fields_within : ℕ → List ℕ → Option (List Field)
fields_within most [] = Some []
fields_within zero (byte ∷ bytes) = None
fields_within (suc most) (byte ∷ bytes) = then_fields (split (byte ∷ bytes)) (fields_within most)

-- the fields that bytes are, where each can be obeyed
abbrev pub all_fields : List ℕ → Option (List Field)
all_fields bytes = fields_within (length bytes) bytes

-- Write Structured Field, in the channel's form or in SNA's
abbrev pub is_structured : ℕ → Bool
is_structured code = (code == 0x11) || (code == 0xF3)

abbrev pub some_fields : List ℕ → Option (List Field)
some_fields [] = None
some_fields (byte ∷ bytes) = all_fields (byte ∷ bytes)

-- the fields of a record, one at least, where each can be obeyed
abbrev pub fields_in : List ℕ → Option (List Field)
fields_in [] = None
fields_in (code ∷ bytes) = if is_structured code then some_fields bytes else None
