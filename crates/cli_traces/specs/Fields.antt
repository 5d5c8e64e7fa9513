-- Structured fields, one after the other (GA23-0059, "Structured fields"): each has its length in two bytes, an identifier, and
-- what belongs to it.
use Rattle.std.specs.Prelude.{ℕ, ◌+◌, ◌*◌, ◌-◌, ◌==◌, nat_le, Bool, ◌&&◌, ◌||◌, if◌then◌else◌, zero, suc, List, [], ◌∷◌, ◌++◌, codes, length, map, take, drop, Option, Some, None}
use Rattle.hex.specs.Hex.{encode_upper}

-- the length that a field gives itself, where it has the two bytes of it
unfoldable pub given_len : List ℕ → ℕ
given_len [] = 0
given_len (high ∷ []) = 0
given_len (high ∷ low ∷ rest) = high * 256 + low

-- A field has its length and a byte at least. One of length 0 is the last, and has all that follows.
unfoldable pub is_whole : List ℕ → Bool
is_whole bytes = nat_le 3 (length bytes) && (given_len bytes == 0 || (nat_le 3 (given_len bytes) && nat_le (given_len bytes) (length bytes)))

-- how many bytes the first field has; all, where it is the last, and where they begin with none
unfoldable pub field_len : List ℕ → ℕ
field_len bytes = if nat_le 3 (given_len bytes) && nat_le (given_len bytes) (length bytes) then given_len bytes else length bytes

-- the fields, after so many bytes that belong to the one before; bytes that are no field stand last, alone
abbrev pub fields_from : ℕ → List ℕ → List (List ℕ)
fields_from skip [] = []
fields_from (suc skip) (byte ∷ rest) = fields_from skip rest
fields_from zero (byte ∷ rest) = take (field_len (byte ∷ rest)) (byte ∷ rest) ∷ fields_from (field_len (byte ∷ rest) - 1) rest

abbrev pub fields_in : List ℕ → List (List ℕ)
fields_in bytes = fields_from 0 bytes

-- the first field, and what follows it
abbrev pub cut_field : List ℕ → Option (List ℕ × List ℕ)
cut_field [] = None
cut_field (byte ∷ rest) = Some (take (field_len (byte ∷ rest)) (byte ∷ rest), drop (field_len (byte ∷ rest)) (byte ∷ rest))

abbrev pub fields_by : Option (List ℕ × List ℕ) → List (List ℕ)
fields_by None = []
fields_by (Some cut) = cut.0 ∷ fields_in cut.1

-- ---- what draws

-- Outbound 3270DS is 40, its partition, and the command and orders of a record; partition 0 is that of a terminal which has one
unfoldable pub after_outbound : List ℕ → List ℕ
after_outbound (identifier ∷ partition ∷ rest) = if identifier == 0x40 && partition == 0 then rest else []
after_outbound content = []

-- the record in a field; none where there is no byte of it
unfoldable pub drawn : List ℕ → List ℕ
drawn field = if is_whole field then after_outbound (drop 2 field) else []

-- what each of the fields draws
abbrev pub drawn_of : List (List ℕ) → List (List ℕ)
drawn_of fields = map drawn fields

-- ---- names

-- what Read Partition asks for
unfoldable pub read_name : List ℕ → List ℕ
read_name (partition ∷ kind ∷ rest) =
    if kind == 0x02 then codes "Read Partition Query"
    else (if kind == 0x03 then codes "Read Partition Query List"
    else (if kind == 0x6E then codes "Read Partition Read Modified All"
    else (if kind == 0xF2 then codes "Read Partition Read Buffer"
    else (if kind == 0xF6 then codes "Read Partition Read Modified" else codes "Read Partition"))))
read_name rest = codes "Read Partition"

-- an identifier of one byte
unfoldable pub plain_name : ℕ → List ℕ
plain_name identifier =
    if identifier == 0x00 then codes "Reset Partition"
    else (if identifier == 0x03 then codes "Erase/Reset"
    else (if identifier == 0x06 then codes "Load Programmed Symbols"
    else (if identifier == 0x09 then codes "Set Reply Mode"
    else (if identifier == 0x0B then codes "Set Window Origin"
    else (if identifier == 0x0C then codes "Create Partition"
    else (if identifier == 0x0D then codes "Destroy Partition"
    else (if identifier == 0x0E then codes "Activate Partition"
    else (if identifier == 0x40 then codes "Outbound 3270DS"
    else (if identifier == 0x41 then codes "SCS Data"
    else (if identifier == 0x4A then codes "Select Format Group"
    else (if identifier == 0x4B then codes "Present Absolute Format"
    else (if identifier == 0x4C then codes "Present Relative Format"
    else (if identifier == 0x80 then codes "Inbound 3270DS"
    else (if identifier == 0x81 then codes "Query Reply" else []))))))))))))))

-- an identifier of two bytes, of which the first is 0F
unfoldable pub long_name : List ℕ → List ℕ
long_name [] = []
long_name (second ∷ rest) =
    if second == 0x01 then codes "Set MSR Control"
    else (if second == 0x02 then codes "Destination/Origin"
    else (if second == 0x08 then codes "Set Partition Characteristics"
    else (if second == 0x0F then codes "Object Data"
    else (if second == 0x10 then codes "Object Picture"
    else (if second == 0x11 then codes "Object Control"
    else (if second == 0x21 then codes "Data Chain"
    else (if second == 0x24 then codes "Load Format Storage" else [])))))))

-- the name of what follows the length
unfoldable pub content_name : List ℕ → List ℕ
content_name [] = []
content_name (identifier ∷ rest) =
    if identifier == 0x01 then read_name rest else (if identifier == 0x0F then long_name rest else plain_name identifier)

-- an identifier has one byte, or two where the first is 0F
unfoldable pub identifier_of : List ℕ → List ℕ
identifier_of [] = []
identifier_of (first ∷ rest) = if first == 0x0F then take 2 (first ∷ rest) else take 1 (first ∷ rest)

-- without a name in the chapter: its identifier
unfoldable pub identifier_word : List ℕ
identifier_word = codes "identifier "

unfoldable pub or_identifier : List ℕ → List ℕ → List ℕ
or_identifier content name = if length name == 0 then identifier_word ++ encode_upper (identifier_of content) else name

unfoldable pub field_name : List ℕ → List ℕ
field_name field = if is_whole field then or_identifier (drop 2 field) (content_name (drop 2 field)) else codes "no field"

-- the names of fields, with a comma before each but the first
abbrev pub names_after : List (List ℕ) → List ℕ
names_after [] = []
names_after (field ∷ fields) = codes ", " ++ (field_name field ++ names_after fields)

abbrev pub names_of : List (List ℕ) → List ℕ
names_of [] = []
names_of (field ∷ fields) = codes ": " ++ (field_name field ++ names_after fields)
