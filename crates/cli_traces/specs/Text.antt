-- The text of records, and of what else is told of a stream.
use Rattle.std.specs.Prelude.{ℕ, ◌==◌, ◌||◌, drop, Bool, true, false, ◌&&◌, List, [], ◌∷◌, ◌++◌, codes, if◌then◌else◌, Option, Some, None}
use Rattle.std.specs.Fmt.{decimal}
use Rattle.hex.specs.Hex.{encode_upper}
use Rattle.tn_wire.specs.declared.header.DataType.{DataType}
use Rattle.tn_wire.specs.declared.header.DataType.TheVariants.{Data3270, ScsData, Response, BindImage, Unbind, NvtData, Request, SscpLuData, PrintEoj}
use Rattle.tn_wire.specs.declared.header.Header.{Header}
use Rattle.tn_wire.specs.declared.header.HeaderFault.{HeaderFault}
use Rattle.tn_wire.specs.declared.header.HeaderFault.TheVariants.{ShortHeader, UnknownType}
use Rattle.tn_wire.specs.declared.event.WireFault.{WireFault}
use Rattle.tn_wire.specs.declared.event.WireFault.TheVariants.{RecordTooLong, SubTooLong, BadSub}
use Rattle.tn_traces.specs.declared.line.Side.{Side}
use Rattle.tn_traces.specs.declared.line.Side.TheVariants.{Host, Terminal}
use Rattle.tn_traces.specs.Record.{Kept}
use Rattle.cli_traces.specs.declared.text.Shape.{Shape}
use Rattle.cli_traces.specs.declared.text.Shape.TheVariants.{Comment, Line, Fields}
use Rattle.cli_traces.specs.Fields.{fields_in, names_of}

-- ---- a record

-- 3270 data: every record of a classic session, and those of type 3270-DATA
abbrev pub is_3270_type : DataType → Bool
is_3270_type Data3270 = true
is_3270_type data_type = false

abbrev pub is_3270 : Option Header → Bool
is_3270 None = true
is_3270 (Some header) = is_3270_type header.data_type

abbrev pub is_some_byte : List ℕ → Bool
is_some_byte [] = false
is_some_byte (b ∷ bytes) = true

-- printed as a line of bytes, and counted: 3270 data, at least a byte of it
abbrev pub is_line : Kept → Bool
is_line kept = is_3270 kept.header && is_some_byte kept.body

abbrev pub type_name : DataType → List ℕ
type_name Data3270 = codes "3270-DATA"
type_name ScsData = codes "SCS-DATA"
type_name Response = codes "RESPONSE"
type_name BindImage = codes "BIND-IMAGE"
type_name Unbind = codes "UNBIND"
type_name NvtData = codes "NVT-DATA"
type_name Request = codes "REQUEST"
type_name SscpLuData = codes "SSCP-LU-DATA"
type_name PrintEoj = codes "PRINT-EOJ"

-- the data type, the response flag and the sequence number of an enhanced session
abbrev pub header_words : Option Header → List ℕ
header_words None = []
header_words (Some header) =
    codes ": " ++ (type_name header.data_type ++ (codes ", response " ++ (decimal header.response ++ (codes ", sequence " ++ decimal header.seq))))

-- the number among the records that are printed as lines, from 0
abbrev pub number_words : ℕ → Kept → List ℕ
number_words count kept = if is_line kept then codes "record " ++ decimal count else codes "record"

abbrev pub comment_text : ℕ → ℕ → Kept → List ℕ
comment_text count line kept =
    codes "# " ++ (number_words count kept ++ (codes " at line " ++ (decimal line ++ (header_words kept.header ++ codes "\n"))))

abbrev pub bytes_text : Kept → List ℕ
bytes_text kept = if is_line kept then encode_upper kept.body ++ codes "\n" else []

-- a record that ends in the line of this number, after so many that were printed as lines
abbrev pub record_text : ℕ → ℕ → Kept → List ℕ
record_text count line kept = comment_text count line kept ++ bytes_text kept

-- ---- structured fields

-- Write Structured Field of the host, and the terminal's AID of structured fields (GA23-0059, "Commands" and "Attention
-- identification")
abbrev pub is_fields_code : Side → ℕ → Bool
is_fields_code Host code = code == 0xF3 || code == 0x11
is_fields_code Terminal aid = aid == 0x88

unfoldable pub has_fields : Side → List ℕ → Bool
has_fields side [] = false
has_fields side (code ∷ rest) = is_fields_code side code

-- a record of 3270 data is a line, or fields where not all are lines
abbrev pub data_shape : Bool → Side → List ℕ → Shape
data_shape all side body = if all then Line else (if has_fields side body then Fields else Line)

abbrev pub shape_of : Bool → Side → Kept → Shape
shape_of all side kept = if is_line kept then data_shape all side kept.body else Comment

-- the comment of fields, after so many such records; the first byte is a command or an AID
unfoldable pub fields_word : List ℕ
fields_word = codes "# structured field "

unfoldable pub fields_number : ℕ → List ℕ
fields_number count = codes "# structured field " ++ decimal count

abbrev pub fields_head : ℕ → ℕ → Option Header → List ℕ
fields_head count line header = fields_number count ++ (codes " at line " ++ (decimal line ++ (header_words header ++ codes "\n")))

abbrev pub fields_line : List ℕ → List ℕ
fields_line body = fields_word ++ (encode_upper body ++ (names_of (fields_in (drop 1 body)) ++ codes "\n"))

abbrev pub fields_text : ℕ → ℕ → Kept → List ℕ
fields_text count line kept = fields_head count line kept.header ++ fields_line kept.body

-- ---- what else is told, with the number of the line

-- text before a session, with the line of the command that ended it
unfoldable pub plain_head : ℕ → List ℕ
plain_head line = codes "# plain text at line " ++ (decimal line ++ codes ": ")

abbrev pub plain_text : ℕ → List ℕ → List ℕ
plain_text line bytes = plain_head line ++ (encode_upper bytes ++ codes "\n")

abbrev pub connection_text : ℕ → List ℕ
connection_text line = codes "# connection at line " ++ (decimal line ++ codes "\n")

abbrev pub refused_text : ℕ → List ℕ
refused_text line = codes "line " ++ (decimal line ++ codes " refused\n")

abbrev pub wire_name : WireFault → List ℕ
wire_name RecordTooLong = codes "W1 RecordTooLong"
wire_name SubTooLong = codes "W2 SubTooLong"
wire_name BadSub = codes "W3 BadSub"

abbrev pub header_name : HeaderFault → List ℕ
header_name ShortHeader = codes "H1 ShortHeader"
header_name UnknownType = codes "H2 UnknownType"

-- the name of a fault where a device's sizes aren't those of the line of sizes
abbrev pub other_size_name : List ℕ
other_size_name = codes "S1 OtherSize"

abbrev pub fault_text : ℕ → List ℕ → List ℕ
fault_text line name = codes "line " ++ (decimal line ++ (codes " fault " ++ (name ++ codes "\n")))
