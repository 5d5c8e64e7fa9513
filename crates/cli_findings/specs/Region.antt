-- Where a finding or a refusal stands in the text of an input: its line, and the columns of a byte where one is known.
use Rattle.std.specs.Prelude.{ℕ, ◌+◌, ◌-◌, ◌*◌, Bool, true, false, not, ◌&&◌, ◌||◌, ◌==◌, List, [], ◌∷◌, map, codes, slice_get, Option, Some, None, option_map, option_and_then, unwrap_or, Result, Ok, Err}
use Rattle.std.specs.List.{filter}
use Rattle.scr_check.specs.declared.origins.Origin.{Origin}
use Rattle.scr_check.specs.declared.traced.Traced.{Traced}
use Rattle.cli_commands.specs.declared.fault.Fault.{Fault}
use Rattle.cli_commands.specs.declared.fault.Fault.TheVariants.{BadLine, LayoutRefused}
use Rattle.cli_commands.specs.Lines.{lines_in}
use Rattle.cli_commands.specs.Says.{telling}
use Rattle.cli_findings.specs.declared.region.Columns.{Columns}
use Rattle.cli_findings.specs.declared.region.Region.{Region}
use Rattle.cli_findings.specs.Facts.{record_of, byte_of}
use Rattle.cli_findings.specs.RecordLine.{numbers_of, record_numbers}

-- ---- a byte of a record

-- the column after each digit of a line, counted from 1; spaces are no digits
abbrev pub digit_ends : List ℕ → List ℕ
digit_ends line = numbers_of (λ c. not (c == 0x20)) 2 line

-- the same of each record
abbrev pub record_ends : List ℕ → List (List ℕ)
record_ends text = map digit_ends (telling (lines_in text))

abbrev pub columns_of : Option ℕ → Option ℕ → Option Columns
columns_of first second = option_and_then (λ end. option_map (λ after. record { start = end - 1; after = after }) second) first

-- the columns of the byte's two digits
abbrev pub byte_columns : List ℕ → ℕ → Option Columns
byte_columns ends byte = columns_of (slice_get ends (2 * byte)) (slice_get ends (2 * byte + 1))

-- ---- a place

-- where records stand in their text: the line of each, and the column after each of its digits
pub record Standing : Type 0 where
  pub numbers : List ℕ
  pub ends : List (List ℕ)

abbrev pub standing_in : List ℕ → Standing
standing_in text = record { numbers = record_numbers text; ends = record_ends text }

abbrev pub spot_columns : List (List ℕ) → Option ℕ → Option ℕ → Option Columns
spot_columns ends index byte = option_and_then (λ digits. option_and_then (byte_columns digits) byte) (option_and_then (slice_get ends) index)

-- the line of a record, or the first, and the columns of a byte of it
abbrev pub spot_region : Standing → Option ℕ → Option ℕ → Region
spot_region standing index byte =
    record { line = unwrap_or (option_and_then (slice_get standing.numbers) index) 1; columns = spot_columns standing.ends index byte }

abbrev pub finding_region : Standing → Traced → Region
finding_region standing traced = spot_region standing (record_of traced) (byte_of traced)

-- where an order begins
abbrev pub order_region : Standing → Origin → Region
order_region standing origin = spot_region standing (Some origin.index) (Some origin.at)

-- ---- a refusal

-- the text begins with these bytes
abbrev pub begins : List ℕ → List ℕ → Bool
begins line [] = true
begins [] (b ∷ bs) = false
begins (c ∷ cs) (b ∷ bs) = (c == b) && begins cs bs

-- the white space of TOML within a line
abbrev pub is_blank : ℕ → Bool
is_blank c = (c == 0x20) || (c == 0x09)

abbrev pub without_blanks : List ℕ → List ℕ
without_blanks line = filter (λ c. not (is_blank c)) line

-- a line of TOML that begins the table of a field, whose key may stand in quotes; white space does not count
abbrev pub is_table : List ℕ → Bool
is_table line =
    begins (without_blanks line) (codes "[[field]]") || (begins (without_blanks line) (codes "[[\"field\"]]") || begins (without_blanks line) (codes "[['field']]"))

-- the line on which the table of this index begins
abbrev pub table_line : List ℕ → ℕ → Option ℕ
table_line text index = slice_get (numbers_of is_table 1 (lines_in text)) index

-- the table of a layout that is refused
abbrev pub fault_table : Fault → Option ℕ
fault_table (LayoutRefused fault) = fault.field
fault_table fault = None

-- the line of a layout at which it is refused: where that table begins, or the first; a longer text is not looked at
abbrev pub line_in : Result (List ℕ) Fault → Fault → ℕ
line_in (Ok text) fault = unwrap_or (option_and_then (table_line text) (fault_table fault)) 1
line_in (Err long) fault = 1

-- the line of records at which they are refused, or the first
abbrev pub line_of_fault : Fault → ℕ
line_of_fault (BadLine number) = number
line_of_fault fault = 1
