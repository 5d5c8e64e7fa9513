-- What `records --from buffer` prints, as a function of its input, and its status.
use Rattle.std.specs.Prelude.{ℕ, List, Result, Ok}
use Rattle.ds_codec.specs.Reading.{◌>>=◌}
use Rattle.cli_commands.specs.declared.fault.Fault.{Fault}
use Rattle.cli_commands.specs.declared.status.Status.TheVariants.{Done}
use Rattle.cli_commands.specs.Lines.{lines_in, within_limit}
use Rattle.cli_commands.specs.Printed.{Printed, printed, printed_or_fault}
use Rattle.cli_buffers.specs.declared.sizes.SizesLine.{SizesLine}
use Rattle.cli_buffers.specs.Reading.{all_from, at_first, ended}

-- the records of all screens, each ended
abbrev pub buffer_within : SizesLine → List ℕ → Result Printed Fault
buffer_within sizes text = all_from sizes at_first (lines_in text) >>= λ known. ended known >>= λ records. Ok (printed records Done)

abbrev pub buffer : SizesLine → List ℕ → Result Printed Fault
buffer sizes input = within_limit input >>= λ text. buffer_within sizes text

-- what `records --from buffer` prints for an input, and its status
abbrev pub printed_buffer : SizesLine → List ℕ → Printed
printed_buffer sizes input = printed_or_fault (buffer sizes input)
