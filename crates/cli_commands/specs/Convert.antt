-- What `convert` prints: each record as order lines.
use Rattle.std.specs.Prelude.{ℕ, ◌+◌, List, [], ◌∷◌, Result, Ok, Err}
use Rattle.ds_codec.specs.declared.size.Mode.{Mode}
use Rattle.ds_codec.specs.declared.refused.Refused.{Refused}
use Rattle.ds_codec.specs.Record.{Message}
use Rattle.ds_codec.specs.Reading.{read_of, ◌>>=◌}
use Rattle.order_lines.specs.Print.{record_lines}
use Rattle.ds_terminal.specs.declared.refused.Refused.TheVariants.{Read}
use Rattle.cli_commands.specs.declared.fault.Fault.{Fault}
use Rattle.cli_commands.specs.declared.fault.Fault.TheVariants.{RecordRefused}
use Rattle.cli_commands.specs.declared.input.sizes.SizeLine.TheVariants.{Allowed}
use Rattle.cli_commands.specs.declared.status.Status.TheVariants.{Done}
use Rattle.cli_commands.specs.Printed.{Printed, printed, printed_or_fault, joined}
use Rattle.cli_commands.specs.Records.{records_in}

abbrev pub lines_or_refusal : ℕ → Result Message Refused → Result (List ℕ) Fault
lines_or_refusal index (Ok message) = Ok (record_lines message)
lines_or_refusal index (Err e) = Err (RecordRefused index (Read e))

-- the lines of each record, one after the other, or the first record that is refused
abbrev pub lines_printed : Mode → ℕ → List (List ℕ) → Result (List ℕ) Fault
lines_printed mode index [] = Ok []
lines_printed mode index (bytes ∷ others) = joined (lines_or_refusal index (read_of mode bytes)) (lines_printed mode (index + 1) others)

-- the same as it is printed
abbrev pub lines_told : Mode → List (List ℕ) → Result Printed Fault
lines_told mode records = lines_printed mode 0 records >>= λ lines. Ok (printed lines Done)

abbrev pub convert : List ℕ → Result Printed Fault
convert input = records_in Allowed input >>= λ told. lines_told told.geometry.mode told.records

-- what `convert` prints for an input, and its status
abbrev pub printed_convert : List ℕ → Printed
printed_convert input = printed_or_fault (convert input)
