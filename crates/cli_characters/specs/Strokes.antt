-- Lines of strokes, among them strings that are typed.
use Rattle.std.specs.Prelude.{ℕ, ◌+◌, ◌-◌, nat_eq, nat_le, List, [], ◌∷◌, ◌++◌, codes, drop, length, Option, Some, None, option_and_then, Result, Ok, Err, if◌then◌else◌}
use Rattle.std.specs.List.{starts_with}
use Rattle.std.specs.Option.{option_map}
use Rattle.bstr.specs.Text.{no_cr}
use Rattle.ds_codec.specs.Reading.{◌>>=◌}
use Rattle.ds_strokes.specs.declared.stroke.Stroke.{Stroke}
use Rattle.order_lines.specs.Print.{hex_byte}
use Rattle.cli_commands.specs.declared.fault.Fault.{Fault}
use Rattle.cli_commands.specs.declared.fault.Fault.TheVariants.{BadKeyLine}
use Rattle.cli_commands.specs.declared.fault.CommandError.{CommandError}
use Rattle.cli_commands.specs.declared.fault.CommandError.TheVariants.{Fault as Told, ReadFailed, OutOfMemory}
use Rattle.cli_commands.specs.Lines.{within_limit}
use Rattle.cli_commands.specs.Strokes.{strokes_in}
use Rattle.cli_characters.specs.Lines.{by_lines, joined, parts_of}
use Rattle.cli_characters.specs.Table.{code_of}

-- the codes of characters, if each is one of the 95
abbrev pub codes_of : List ℕ → Option (List ℕ)
codes_of [] = Some []
codes_of (c ∷ cs) = option_and_then (λ code. option_map (λ others. code ∷ others) (codes_of cs)) (code_of c)

-- a string has a character at least
abbrev pub some_of : Option (List ℕ) → Option (List ℕ)
some_of None = None
some_of (Some []) = None
some_of (Some (code ∷ others)) = Some (code ∷ others)

-- the codes that a line `string` types
unfoldable pub string_of : List ℕ → Option (List ℕ)
string_of line = if starts_with nat_eq line (codes "string ") then some_of (codes_of (drop 7 (no_cr line))) else None

-- ---- as lines of keys

abbrev pub type_line : ℕ → List ℕ
type_line code = codes "type " ++ hex_byte code

-- a string is the lines `type` of its characters; another line stays
abbrev pub typed_from : List ℕ → Option (List ℕ) → List ℕ
typed_from line (Some text) = joined type_line text
typed_from line None = line

abbrev pub typed_line : List ℕ → List ℕ
typed_line line = typed_from line (string_of line)

abbrev pub typed_text : List ℕ → List ℕ
typed_text text = by_lines typed_line text

-- ---- the lines that people count

-- so many lines of keys come of a line
abbrev pub count_of : Option (List ℕ) → ℕ
count_of (Some text) = length text
count_of None = 1

-- the number of the line from which the line of keys of a number comes
abbrev pub line_from : ℕ → List (List ℕ) → ℕ → ℕ
line_from number [] key_line = number
line_from number (part ∷ []) key_line = number
line_from number (part ∷ next ∷ parts) key_line =
    if nat_le key_line (count_of (string_of part)) then number
    else line_from (number + 1) (next ∷ parts) (key_line - count_of (string_of part))

-- a fault of the lines of keys, told by the line from which it comes
abbrev pub fault_in : List ℕ → Fault → Fault
fault_in text (BadKeyLine number) = BadKeyLine (line_from 1 (parts_of text) number)
fault_in text fault = fault

abbrev pub told_in : {A : Type 0} → List ℕ → Result A Fault → Result A Fault
told_in text (Ok found) = Ok found
told_in text (Err fault) = Err (fault_in text fault)

abbrev pub error_in : List ℕ → CommandError → CommandError
error_in text (Told fault) = Told (fault_in text fault)
error_in text ReadFailed = ReadFailed
error_in text OutOfMemory = OutOfMemory

-- ---- inputs

-- the strokes of a text, or its first fault
abbrev pub typed_told : List ℕ → Result (List Stroke) Fault
typed_told text = told_in text (strokes_in (typed_text text))

-- the same of an input, unless it is too long
abbrev pub typed_in : List ℕ → Result (List Stroke) Fault
typed_in input = within_limit input >>= typed_told
