-- What one line of a trace, or of a captured stream, says.
use Rattle.std.specs.Prelude.{ℕ, Bool, ◌&&◌, ◌||◌, not, ◌==◌, nat_eq, nat_le, if◌then◌else◌, List, [], length, take, drop, codes, position, Option, Some, None, Result, Ok, Err}
use Rattle.std.specs.List.{filter, list_any, starts_with}
use Rattle.hex.specs.declared.error.FromHexError.{FromHexError}
use Rattle.hex.specs.Hex.{decode_of}
use Rattle.tn_traces.specs.declared.line.Side.{Side}
use Rattle.tn_traces.specs.declared.line.Side.TheVariants.{Host, Terminal}

-- nothing of a stream; a new connection; bytes that this side sent; hexadecimal that is none
pub data Said : Type 0 where
  nothing : Said
  connected : Said
  piece : (side : Side) → (bytes : List ℕ) → Said
  bad : Said

-- ---- bytes in hexadecimal

-- spaces among the digits do not count
abbrev pub without_spaces : List ℕ → List ℕ
without_spaces text = filter (λ b. not (b == 0x20)) text

abbrev pub piece_or_bad : Side → Result (List ℕ) FromHexError → Said
piece_or_bad side (Ok bytes) = piece side bytes
piece_or_bad side (Err e) = bad

abbrev pub piece_said : Side → List ℕ → Said
piece_said side text = piece_or_bad side (decode_of (without_spaces text))

-- ---- a line of a trace

-- a time stamp has 19 bytes, digits and full stops
abbrev pub is_stamp_byte : ℕ → Bool
is_stamp_byte b = b == 0x2E || (nat_le 0x30 b && nat_le b 0x39)

abbrev pub is_stamp : List ℕ → Bool
is_stamp bytes = not (list_any (λ b. not (is_stamp_byte b)) bytes)

-- a new connection: a time stamp, and these words after it
abbrev pub is_connected : List ℕ → Bool
is_connected line =
    nat_le 19 (length line) && (is_stamp (take 19 line) && starts_with nat_eq (drop 19 line) (codes " Connected to "))

-- the side whose bytes a line has: from the host, or to it
abbrev pub side_of : List ℕ → Option Side
side_of line =
    if starts_with nat_eq line (codes "< 0x") then Some Host
    else (if starts_with nat_eq line (codes "> 0x") then Some Terminal else None)

-- what follows the first space
abbrev pub from_place : List ℕ → Option ℕ → List ℕ
from_place text None = []
from_place text (Some place) = drop place text

abbrev pub after_offset : List ℕ → List ℕ
after_offset text = from_place text (position (λ b. b == 0x20) text)

-- the bytes follow their side, 0x, and the offset of the first
abbrev pub said_by : List ℕ → Option Side → Said
said_by line (Some side) = piece_said side (after_offset (drop 4 line))
said_by line None = if is_connected line then connected else nothing

abbrev pub trace_said : List ℕ → Said
trace_said line = said_by line (side_of line)

-- ---- a line of a captured stream: a piece of what this side sent

abbrev pub stream_said : Side → List ℕ → Said
stream_said side line = piece_said side line
