-- What a line does, as the commands take it.
use Rattle.std.specs.Prelude.{ℕ, ◌%◌, ◌/◌, nat_le, ◌==◌, ◌&&◌, not, Bool, List, [], ◌∷◌, length, is_none, is_some, codes, slice_index, nat_eq, ◌+◌, ◌||◌, drop, position, Option, Some, None, Result, Ok, Err, if◌then◌else◌}
use Rattle.std.specs.List.{starts_with}
use Rattle.std.specs.Option.{unwrap_or}
use Rattle.std.specs.Str.{is_utf8}
use Rattle.ds_codec.specs.Reading.{◌>>=◌}
use Rattle.ds_keys.specs.Lines.{key_of}
use Rattle.order_lines.specs.Told as orders
use Rattle.cli_commands.specs.declared.fault.CommandError.{CommandError}
use Rattle.cli_commands.specs.declared.fault.Fault.{Fault}
use Rattle.cli_commands.specs.declared.fault.Fault.TheVariants.{TooLong as InputTooLong}
use Rattle.cli_commands.specs.declared.input.sizes.SizeLine.{SizeLine}
use Rattle.cli_commands.specs.declared.input.sizes.SizeLine.TheVariants as line
use Rattle.cli_commands.specs.Fault.{Gives}
use Rattle.cli_commands.specs.Keys.{keys_in}
use Rattle.cli_commands.specs.Records.{Records, records_in}
use Rattle.cli_commands.specs.Strokes.{strokes_in}
use Rattle.cli_commands.specs.TurnLines.{is_turn}
use Rattle.cli_characters.specs.Orders.{plain_line}
use Rattle.cli_characters.specs.Strokes.{string_of}
use Rattle.cli_reasons.specs.declared.flaw.Flaw.{Flaw}
use Rattle.cli_reasons.specs.declared.flaw.Limit.TheVariants.{RecordBytes}
use Rattle.cli_reasons.specs.declared.flaw.Why.TheVariants.{NotDigit, OddDigits, TooLong}
use Rattle.cli_reasons.specs.declared.judged.Judged.{Judged}
use Rattle.cli_reasons.specs.declared.judged.Judged.TheVariants.{Nothing, Sizes, Record, Key, Characters, Command, Order, End, Session, Refused}
use Rattle.cli_reasons.specs.declared.key_line.Names.{Names}
use Rattle.cli_reasons.specs.declared.key_line.Names.TheVariants.{Keys, Strokes}
use Rattle.cli_reasons.specs.declared.record_line.SizesBy.{SizesBy}
use Rattle.cli_reasons.specs.declared.record_line.SizesBy.TheVariants.{Line, Earlier, Layout}
use Rattle.cli_reasons.specs.CharacterLine.{character_flaw}
use Rattle.cli_reasons.specs.Digits.{digit_count, first_other}
use Rattle.cli_reasons.specs.Flaw.{flaw_at}
use Rattle.cli_reasons.specs.KeyLine.{key_flaw}
use Rattle.cli_reasons.specs.OrderLine.{order_flaw}
use Rattle.cli_reasons.specs.RecordLine.{record_flaw}

-- a line does this, unless memory was refused
abbrev pub JudgedAs : Result Judged CommandError → Judged → Type 0
JudgedAs result judged = Gives (λ found. found) result (Ok judged)

abbrev pub size_line : SizesBy → SizeLine
size_line Line = line.Allowed
size_line Earlier = line.Refused
size_line Layout = line.Refused

-- digits alone, an even number and some
abbrev pub is_plain : List ℕ → Bool
is_plain line = not (length line == 0) && (length line % 2 == 0 && digit_count line == length line)

-- digits, an even number of them, and spaces
abbrev pub is_spaced : List ℕ → Bool
is_spaced line = is_none (first_other line) && digit_count line % 2 == 0

-- how many bytes a line of digits and spaces spells, where it spells any
abbrev pub spaced_bytes : List ℕ → Option ℕ
spaced_bytes line = if is_spaced line && nat_le 2 (digit_count line) then Some (digit_count line / 2) else None

-- ---- records

-- what the records that a line alone tells show of it
abbrev pub judged_by : SizesBy → SizeLine → List (List ℕ) → Judged
judged_by sizes told (bytes ∷ more) = Record (length bytes)
judged_by Line line.Refused [] = Sizes
judged_by sizes told [] = Nothing

abbrev pub judged_records : SizesBy → List ℕ → Result Records Fault → Judged
judged_records sizes line (Ok told) = judged_by sizes told.size_line told.records
judged_records sizes line (Err InputTooLong) = Refused (flaw_at 1 (TooLong RecordBytes))
judged_records sizes line (Err fault) = Refused (record_flaw sizes line)

abbrev pub judged_digits_or : SizesBy → List ℕ → Option ℕ → Judged
judged_digits_or sizes line (Some bytes) = Record bytes
judged_digits_or sizes line None = judged_records sizes line (records_in (size_line sizes) line)

-- digits are a record, and any other line does what it does alone
abbrev pub judged_record : SizesBy → List ℕ → Judged
judged_record sizes line = if is_plain line then Record (length line / 2) else judged_digits_or sizes line (spaced_bytes line)

-- the same of a line of several turns
abbrev pub judged_turn : SizesBy → List ℕ → Judged
judged_turn sizes line = if is_turn line then Nothing else judged_record sizes line

-- ---- keys and strokes

-- how many keys or strokes a line alone names
abbrev pub names_in : Names → List ℕ → Result ℕ Fault
names_in Keys line = keys_in line >>= λ keys. Ok (length keys)
names_in Strokes line = strokes_in line >>= λ strokes. Ok (length strokes)

abbrev pub judged_names : Names → List ℕ → Result ℕ Fault → Judged
judged_names names line (Ok count) = if count == 0 then Nothing else Key
judged_names names line (Err fault) = Refused (key_flaw names line)

-- a string among strokes
abbrev pub typed_by : Names → List ℕ → Option (List ℕ)
typed_by Keys line = None
typed_by Strokes line = string_of line

abbrev pub judged_text_or : Names → List ℕ → Option (List ℕ) → Judged
judged_text_or names line (Some text) = Characters (length text)
judged_text_or names line None = judged_names names line (names_in names line)

-- a key is one of strokes too
abbrev pub judged_name : Names → List ℕ → Judged
judged_name names line = if is_utf8 line && is_some (key_of line) then Key else judged_text_or names line (typed_by names line)

-- ---- orders

-- a line that tells sizes, or is refused
abbrev pub sizes_or_flaw : SizesBy → List ℕ → Judged → Judged
sizes_or_flaw sizes line Sizes = Sizes
sizes_or_flaw sizes line judged = Refused (order_flaw sizes line)

abbrev pub judged_sizes : SizesBy → List ℕ → Result Records Fault → Judged
judged_sizes sizes line (Ok told) = sizes_or_flaw sizes line (judged_by sizes told.size_line told.records)
judged_sizes sizes line (Err fault) = Refused (order_flaw sizes line)

-- a line that is no command and no order
abbrev pub judged_other : SizesBy → List ℕ → Judged
judged_other sizes line = judged_sizes sizes line (records_in (size_line sizes) line)

abbrev pub judged_words : SizesBy → List ℕ → Option orders.Told → Judged
judged_words sizes line (Some (orders.command told)) = Command
judged_words sizes line (Some (orders.order told)) = Order
judged_words sizes line None = judged_other sizes line

abbrev pub is_comment : List ℕ → Bool
is_comment line = starts_with nat_eq line (codes "#") && is_utf8 line

abbrev pub judged_some : SizesBy → List ℕ → Judged
judged_some sizes line = if is_comment line then Nothing else judged_words sizes line (orders.told_of line)

-- an empty line ends a record, and `#` begins a comment
abbrev pub judged_order : SizesBy → List ℕ → Judged
judged_order sizes [] = End
judged_order sizes (byte ∷ bytes) = judged_some sizes (byte ∷ bytes)

abbrev pub or_character_flaw : SizesBy → List ℕ → Judged → Judged
or_character_flaw sizes line (Refused flaw) = Refused (character_flaw sizes line)
or_character_flaw sizes line judged = judged

-- the same of a line whose text may be characters
abbrev pub judged_characters : SizesBy → List ℕ → Judged
judged_characters sizes line = or_character_flaw sizes line (judged_order sizes (plain_line line))

-- ---- traces and streams

-- a line of a trace that has bytes of a side
abbrev pub is_session : List ℕ → Bool
is_session line = starts_with nat_eq line (codes "< 0x") || starts_with nat_eq line (codes "> 0x")

abbrev pub stream_flaw_from : ℕ → List ℕ → Option ℕ → Flaw
stream_flaw_from before digits (Some place) = flaw_at (before + place + 1) (NotDigit (slice_index digits place))
stream_flaw_from before digits None = flaw_at (before + length digits + 1) (OddDigits (digit_count digits))

-- what is wrong with digits that stand after so many bytes of a line
abbrev pub stream_flaw : ℕ → List ℕ → Flaw
stream_flaw before digits = stream_flaw_from before digits (first_other digits)

abbrev pub judged_digits : ℕ → List ℕ → Judged
judged_digits before digits = if is_spaced digits then Session else Refused (stream_flaw before digits)

-- what a line of a stream does; of one that is too long nothing is told
abbrev pub judged_stream : List ℕ → Judged
judged_stream line = if nat_le (length line) 16777216 then judged_digits 0 line else Session

abbrev pub is_space : ℕ → Bool
is_space byte = byte == 0x20

abbrev pub is_no_space : ℕ → Bool
is_no_space byte = not (is_space byte)

-- how many spaces stand at the front
abbrev pub leading_spaces : List ℕ → ℕ
leading_spaces bytes = unwrap_or (position is_no_space bytes) (length bytes)

-- the spaces behind a word that ends at a place
abbrev pub digits_behind : List ℕ → Option ℕ → ℕ
digits_behind line (Some place) = 4 + place + leading_spaces (drop (4 + place) line)
digits_behind line None = length line

-- how many bytes stand before the digits of a line of a trace: a side, an offset and spaces
abbrev pub offset_len : List ℕ → ℕ
offset_len line = digits_behind line (position is_space (drop 4 line))

-- what a line of a trace does: one that has bytes of a side begins with it
abbrev pub judged_trace : List ℕ → Judged
judged_trace line =
    if is_session line && nat_le (length line) 16777216 then judged_digits (offset_len line) (drop (offset_len line) line) else Nothing
