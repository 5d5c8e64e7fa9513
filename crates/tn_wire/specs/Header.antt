-- The header of a TN3270E record (RFC 2355).
use Rattle.std.specs.Prelude.{ℕ, ◌==◌, ◌^◌, ◌<◌, Bool, nat_le, nat_lt, List, ◌∷◌, length, drop, slice_index, Option, Some, None, Result, Ok, Err, if◌then◌else◌}
use Rattle.byteorder.specs.Endian.{big_bytes, big_number}
use Rattle.tn_wire.specs.declared.header.DataType.{DataType}
use Rattle.tn_wire.specs.declared.header.DataType.TheVariants.{Data3270, ScsData, Response, BindImage, Unbind, NvtData, Request, SscpLuData, PrintEoj}
use Rattle.tn_wire.specs.declared.header.Header.{Header}
use Rattle.tn_wire.specs.declared.header.HeaderFault.{HeaderFault}
use Rattle.tn_wire.specs.declared.header.HeaderFault.TheVariants.{ShortHeader, UnknownType}

abbrev pub type_code : DataType → ℕ
type_code Data3270 = 0
type_code ScsData = 1
type_code Response = 2
type_code BindImage = 3
type_code Unbind = 4
type_code NvtData = 5
type_code Request = 6
type_code SscpLuData = 7
type_code PrintEoj = 8

-- 00 to 08
abbrev pub is_type : ℕ → Bool
is_type code = nat_le code 8

-- the five bytes, the sequence number's high byte first
abbrev pub header_bytes : Header → List ℕ
header_bytes h = type_code h.data_type ∷ h.request ∷ h.response ∷ big_bytes 2 h.seq

-- the flags are bytes, the sequence number two
pub record FitsHeader (h : Header) : Type 0 where
  pub request : h.request < 256
  pub response : h.response < 256
  pub seq : h.seq < 2 ^ 16

abbrev pub type_of : ℕ → Option DataType
type_of code =
    if code == 0 then Some Data3270
    else (if code == 1 then Some ScsData
    else (if code == 2 then Some Response
    else (if code == 3 then Some BindImage
    else (if code == 4 then Some Unbind
    else (if code == 5 then Some NvtData
    else (if code == 6 then Some Request
    else (if code == 7 then Some SscpLuData
    else (if code == 8 then Some PrintEoj else None))))))))

-- a record's header, and the bytes after it
pub record Headed : Type 0 where
  pub header : Header
  pub rest : List ℕ

abbrev pub headed : List ℕ → Option DataType → Result Headed HeaderFault
headed bytes None = Err UnknownType
headed bytes (Some data_type) = Ok (record {
  header = record {
    data_type = data_type;
    request = slice_index bytes 1;
    response = slice_index bytes 2;
    seq = big_number 2 (drop 3 bytes);
  };
  rest = drop 5 bytes;
})

-- what reading a record's header tells
unfoldable pub header_of : List ℕ → Result Headed HeaderFault
header_of bytes = if nat_lt (length bytes) 5 then Err ShortHeader else headed bytes (type_of (slice_index bytes 0))
