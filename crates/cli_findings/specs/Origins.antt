-- Which order wrote what stands on a screen: a line for each position.
use Rattle.std.specs.Prelude.{ℕ, List, ◌++◌, codes, Option, Some, None, Result, Ok}
use Rattle.std.specs.Fmt.{decimal}
use Rattle.std.specs.List.{flat_map, range_with_len}
use Rattle.ds_codec.specs.Reading.{◌>>=◌}
use Rattle.ds_screen.specs.Writes.{most_positions}
use Rattle.scr_layout.specs.Layout.{Declaration}
use Rattle.scr_check.specs.declared.origins.Origin.{Origin}
use Rattle.scr_check.specs.Origins.{origin_of}
use Rattle.cli_commands.specs.declared.fault.Fault.{Fault}
use Rattle.cli_commands.specs.declared.input.sizes.SizeLine.TheVariants.{Refused}
use Rattle.cli_commands.specs.declared.status.Status.TheVariants.{Done}
use Rattle.cli_commands.specs.LayoutText.{layout_in}
use Rattle.cli_commands.specs.Printed.{Printed, printed, printed_or_fault}
use Rattle.cli_commands.specs.Records.{records_in}

-- the record, and the byte of it at which the order begins, both counted from 0
abbrev pub origin_line : Option Origin → List ℕ
origin_line None = codes "-\n"
origin_line (Some origin) = decimal origin.index ++ (codes " " ++ (decimal origin.at ++ codes "\n"))

-- as many positions as the larger size has
abbrev pub positions : Declaration → ℕ
positions layout = most_positions layout.geometry

abbrev pub origin_lines : Declaration → List (List ℕ) → List ℕ
origin_lines layout records = flat_map (λ p. origin_line (origin_of layout records p)) (range_with_len 0 (positions layout))

abbrev pub origins_of : Declaration → List ℕ → Result Printed Fault
origins_of layout input = records_in Refused input >>= λ told. Ok (printed (origin_lines layout told.records) Done)

-- of the texts of a layout and of records
abbrev pub origins : List ℕ → List ℕ → Result Printed Fault
origins text input = layout_in text >>= λ layout. origins_of layout input

abbrev pub printed_origins : List ℕ → List ℕ → Printed
printed_origins text input = printed_or_fault (origins text input)
