-- The lines of an answer, one after the other.
use Rattle.std.specs.Prelude.{ℕ, ◌+◌, min, List, [], ◌∷◌, ◌++◌, codes, Option, Some, None, Result, Ok, Err, if◌then◌else◌}
use Rattle.std.specs.String.{string_bytes}
use Rattle.hex.specs.Hex.{encode_upper}
use Rattle.ds_codec.specs.declared.size.Size.{Size}
use Rattle.ds_codec.specs.Reading.{◌>>=◌}
use Rattle.buffer_lines.specs.Line.{line_told}
use Rattle.buffer_lines.specs.Screen as screens
use Rattle.buffer_lines.specs.Screen.{Opened, Taken, Course, goes, ends, stops, open_seen, is_blank, step_by}
use Rattle.cli_commands.specs.declared.fault.Fault.{Fault}
use Rattle.cli_commands.specs.declared.fault.Fault.TheVariants.{BadLine}
use Rattle.cli_buffers.specs.declared.reading.Reading as held
use Rattle.cli_buffers.specs.declared.sizes.SizesLine.{SizesLine}
use Rattle.cli_buffers.specs.Sizes.{first_size, is_other, sizes_text}

-- the rows of the screen at hand, the size of the first screen, how many lines came, and the records so far
pub record Known : Type 0 where
  pub opened : Opened
  pub first : Option Size
  pub number : ℕ
  pub text : List ℕ

abbrev pub reading_seen : held.Reading → Known
reading_seen reading = record { opened = open_seen reading.open; first = reading.first; number = reading.number; text = string_bytes reading.text }

abbrev pub at_first : Known
at_first = record { opened = screens.at_first; first = None; number = 0; text = [] }

abbrev pub record_line : List ℕ → List ℕ
record_line bytes = encode_upper bytes ++ codes "\n"

-- a screen was ended: its record, and before the first one the line of sizes
abbrev pub with_taken : SizesLine → Known → Taken → Result Known Fault
with_taken sizes known taken =
    if is_other sizes known.first taken.size then Err (BadLine known.number)
    else Ok (record known {
      first = Some (first_size known.first taken.size);
      text = known.text ++ (sizes_text sizes known.first taken.size ++ record_line taken.bytes);
    })

-- lines are counted up to 2^64 - 1
abbrev pub counted : Known → Known
counted known = record known { number = min (known.number + 1) 18446744073709551615 }

abbrev pub after_course : SizesLine → Known → Course → Result Known Fault
after_course sizes known (goes opened) = Ok (record known { opened = opened })
after_course sizes known (ends taken opened) = with_taken sizes (record known { opened = opened }) taken
after_course sizes known stops = Err (BadLine known.number)

-- the next line
abbrev pub take_line : SizesLine → Known → List ℕ → Result Known Fault
take_line sizes known line = after_course sizes (counted known) (step_by known.opened (line_told line))

-- all lines, up to the first that is refused
abbrev pub all_from : SizesLine → Known → List (List ℕ) → Result Known Fault
all_from sizes known [] = Ok known
all_from sizes known (line ∷ lines) = take_line sizes known line >>= λ next. all_from sizes next lines

-- the rows of a screen whose status line doesn't come are refused at the last line
abbrev pub ended : Known → Result (List ℕ) Fault
ended known = if is_blank known.opened then Ok known.text else Err (BadLine known.number)
