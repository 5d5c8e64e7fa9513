-- Why a line of records is refused.
use Rattle.std.specs.Prelude.{ℕ, ◌+◌, ◌-◌, ◌==◌, ◌&&◌, ◌||◌, nat_eq, Bool, false, List, codes, length, slice_index, Option, Some, None, is_none, if◌then◌else◌}
use Rattle.std.specs.List.{starts_with}
use Rattle.cli_commands.specs.TurnLines.{is_turn}
use Rattle.cli_reasons.specs.declared.flaw.Flaw.{Flaw}
use Rattle.cli_reasons.specs.declared.flaw.Why.{Why}
use Rattle.cli_reasons.specs.declared.flaw.Why.TheVariants.{NotDigit, OddDigits, ByteOrderMark, Utf16, Tab, Prefix, Comment, SizesOfLayout, SizesTooLate, NoSizes, Turn}
use Rattle.cli_reasons.specs.declared.record_line.SizesBy.{SizesBy}
use Rattle.cli_reasons.specs.declared.record_line.SizesBy.TheVariants.{Line, Earlier, Layout}
use Rattle.cli_reasons.specs.Digits.{first_other, digit_count}
use Rattle.cli_reasons.specs.Flaw.{flaw_at}
use Rattle.cli_reasons.specs.Text.{text_or}

abbrev pub is_zero : Option ℕ → Bool
is_zero None = false
is_zero (Some byte) = byte == 0x30

-- why a byte that is neither a digit nor a space is refused, after this one
abbrev pub byte_why : ℕ → Option ℕ → Why
byte_why byte before =
    if byte == 0 then Utf16
    else if byte == 0x09 then Tab
    else if byte == 0x23 then Comment
    else if byte == 0xEF && is_none before then ByteOrderMark
    else if (byte == 0x78 || byte == 0x58) && is_zero before then Prefix
    else NotDigit byte

abbrev pub byte_before : List ℕ → ℕ → Option ℕ
byte_before line place = if place == 0 then None else Some (slice_index line (place - 1))

-- the first byte that is neither a digit nor a space; else the digits are an odd number, and the next one is missing
abbrev pub flaw_from : List ℕ → Option ℕ → Flaw
flaw_from line (Some place) = flaw_at (place + 1) (byte_why (slice_index line place) (byte_before line place))
flaw_from line None = flaw_at (length line + 1) (OddDigits (digit_count line))

abbrev pub flaw_of_digits : List ℕ → Flaw
flaw_of_digits line = flaw_from line (first_other line)

abbrev pub size_why : SizesBy → Why
size_why Line = NoSizes
size_why Earlier = SizesTooLate
size_why Layout = SizesOfLayout

abbrev pub text_flaw : SizesBy → List ℕ → Flaw
text_flaw sizes line =
    if starts_with nat_eq line (codes "size") then flaw_at 1 (size_why sizes)
    else if is_turn line then flaw_at 1 Turn
    else flaw_of_digits line

abbrev pub record_flaw : SizesBy → List ℕ → Flaw
record_flaw sizes line = text_or line (text_flaw sizes line)
