-- Why a line with characters is refused: the runs of a text, or a string of strokes.
use Rattle.std.specs.Prelude.{ℕ, ◌+◌, not, nat_eq, nat_lt, Bool, List, codes, drop, length, position, slice_index, is_some, Option, Some, None, if◌then◌else◌}
use Rattle.std.specs.List.{starts_with}
use Rattle.std.specs.Option.{option_map_or}
use Rattle.cli_characters.specs.declared.operand.Stop.{Stop}
use Rattle.cli_characters.specs.declared.place.Place.{Place}
use Rattle.cli_characters.specs.declared.place.Place.TheVariants.{Begins, Inside, Quote, Digits, Half}
use Rattle.cli_characters.specs.Operand.{first_stop}
use Rattle.cli_characters.specs.Table.{code_of}
use Rattle.cli_reasons.specs.declared.flaw.Flaw.{Flaw}
use Rattle.cli_reasons.specs.declared.flaw.Why.{Why}
use Rattle.cli_reasons.specs.declared.flaw.Why.TheVariants.{NotDigit, NoCharacter, NoString, OpenQuote, NoRun, NoSpace, HalfByte}
use Rattle.cli_reasons.specs.declared.record_line.SizesBy.{SizesBy}
use Rattle.cli_reasons.specs.Flaw.{flaw_at}
use Rattle.cli_reasons.specs.OrderLine.{order_flaw}

-- ---- the runs of a text

-- what stands at a place, or that the line ends there
abbrev pub byte_at : List ℕ → ℕ → Option ℕ
byte_at line at = if nat_lt at (length line) then Some (slice_index line at) else None

abbrev pub inside_why : Option ℕ → Why
inside_why (Some byte) = NoCharacter byte
inside_why None = OpenQuote

abbrev pub digit_why : Option ℕ → Why
digit_why (Some byte) = NotDigit byte
digit_why None = NoRun

-- why a text isn't good where this was begun
abbrev pub stop_why : Place → Option ℕ → Why
stop_why Begins byte = digit_why byte
stop_why Inside byte = inside_why byte
stop_why Quote byte = NoSpace
stop_why Digits byte = digit_why byte
stop_why (Half high) byte = HalfByte

-- the runs stand after five characters; where they are good, they have no byte
abbrev pub runs_flaw : List ℕ → Flaw
runs_flaw operand = option_map_or (λ (stop : Stop). flaw_at (stop.at + 6) (stop_why stop.place (byte_at operand stop.at))) (first_stop operand) (flaw_at 6 NoRun)

-- what is wrong with a line of orders whose texts may be characters
abbrev pub character_flaw : SizesBy → List ℕ → Flaw
character_flaw sizes line = if starts_with nat_eq line (codes "TEXT ") then runs_flaw (drop 5 line) else order_flaw sizes line

-- ---- a string of strokes

abbrev pub is_uncoded : ℕ → Bool
is_uncoded c = not (is_some (code_of c))

abbrev pub first_uncoded : List ℕ → Option ℕ
first_uncoded characters = position is_uncoded characters

-- the first character without a code, or that there is no character; they stand after seven
abbrev pub string_flaw_from : List ℕ → Option ℕ → Flaw
string_flaw_from characters (Some place) = flaw_at (place + 8) (NoCharacter (slice_index characters place))
string_flaw_from characters None = flaw_at 7 NoString

abbrev pub string_flaw : List ℕ → Flaw
string_flaw characters = string_flaw_from characters (first_uncoded characters)
