-- Lines of records in hexadecimal, and the records that they tell.
use Rattle.std.specs.Prelude.{ℕ, ◌+◌, not, ◌==◌, List, [], ◌∷◌, ◌++◌, length, Option, Some, None, Result, Ok, Err, if◌then◌else◌}
use Rattle.std.specs.List.{filter}
use Rattle.std.specs.Str.{is_utf8}
use Rattle.hex.specs.declared.error.FromHexError.{FromHexError}
use Rattle.hex.specs.Hex.{decode_of}
use Rattle.ds_codec.specs.Geometry.{Sizes}
use Rattle.ds_codec.specs.Reading.{◌>>=◌}
use Rattle.cli_commands.specs.declared.fault.Fault.{Fault}
use Rattle.cli_commands.specs.declared.fault.Fault.TheVariants.{BadLine}
use Rattle.cli_commands.specs.declared.input.sizes.SizeLine.{SizeLine}
use Rattle.cli_commands.specs.declared.input.sizes.SizeLine.TheVariants.{Refused}
use Rattle.cli_commands.specs.Lines.{is_ignored, at_most}
use Rattle.cli_commands.specs.Sizes.{usual_sizes, sizes_told}
use Rattle.cli_commands.specs.Taking.{taken_in}

-- ---- one line

pub data Line : Type 0 where
  ignored : Line
  sizes : (geometry : Sizes) → Line
  outbound : (bytes : List ℕ) → Line
  bad : Line

abbrev pub without_spaces : List ℕ → List ℕ
without_spaces line = filter (λ b. not (b == 0x20)) line

-- a record in hexadecimal
abbrev pub record_told : Result (List ℕ) FromHexError → Line
record_told (Ok bytes) = outbound bytes
record_told (Err e) = bad

abbrev pub sizes_or : Option Sizes → Line → Line
sizes_or (Some geometry) line = sizes geometry
sizes_or None line = line

-- what a text tells, and its digits without its spaces
abbrev pub digits_told : SizeLine → List ℕ → List ℕ → Line
digits_told size_line line digits =
    if is_ignored digits then ignored else sizes_or (sizes_told size_line line) (record_told (decode_of digits))

-- Spaces do not count, but in a line of sizes.
abbrev pub line_told : SizeLine → List ℕ → Line
line_told size_line line = if is_utf8 line then digits_told size_line line (without_spaces line) else bad

-- it tells no sizes
abbrev pub IsNoSizes : Line → Type 0
IsNoSizes (sizes geometry) = ⊥
IsNoSizes line = Unit {0}

-- ---- lines in turn

-- what lines tell: whether a line of sizes may come next, the sizes, and the records
pub record Records : Type 0 where
  pub size_line : SizeLine
  pub geometry : Sizes
  pub records : List (List ℕ)

abbrev pub no_records : SizeLine → Records
no_records size_line = record { size_line = size_line; geometry = usual_sizes; records = [] }

-- at most 1,000 records of 32,768 bytes
abbrev pub one_more : Records → List ℕ → Result Records Fault
one_more told bytes =
    at_most (length bytes) 32768 >>= λ short.
    at_most (length told.records + 1) 1000 >>= λ few.
    Ok (record told { size_line = Refused; records = told.records ++ bytes ∷ [] })

-- what the line of this number adds
abbrev pub after_line : ℕ → Records → Line → Result Records Fault
after_line number told ignored = Ok told
after_line number told (sizes geometry) = Ok (record told { size_line = Refused; geometry = geometry })
after_line number told (outbound bytes) = one_more told bytes
after_line number told bad = Err (BadLine number)

abbrev pub take_record : ℕ → Records → List ℕ → Result Records Fault
take_record number told line = after_line number told (line_told told.size_line line)

-- The sizes and the records of an input, or its first fault. Sizes may be told elsewhere.
abbrev pub records_in : SizeLine → List ℕ → Result Records Fault
records_in size_line input = taken_in take_record (no_records size_line) input
