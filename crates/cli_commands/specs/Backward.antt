-- Order lines whose records are written as they come. This is for the code's own proofs.
use Rattle.std.specs.Prelude.{ℕ, ◌+◌, ◌-◌, List, [], Option, Some, None, Result, Ok, Err}
use Rattle.ds_codec.specs.declared.size.Size.{Size}
use Rattle.ds_codec.specs.declared.command.Command.{Command}
use Rattle.ds_codec.specs.Geometry.{Sizes, cells_of}
use Rattle.ds_codec.specs.Order.{Item}
use Rattle.ds_codec.specs.Reading.{◌>>=◌}
use Rattle.order_lines.specs.Told.{command, order}
use Rattle.order_lines.specs.Draft.{Partial, begun as no_order, with_order, bytes_in}
use Rattle.cli_commands.specs.declared.fault.Fault.{Fault}
use Rattle.cli_commands.specs.declared.fault.Fault.TheVariants.{BadLine}
use Rattle.cli_commands.specs.declared.input.sizes.SizeLine.{SizeLine}
use Rattle.cli_commands.specs.declared.input.sizes.SizeLine.TheVariants.{Allowed, Refused}
use Rattle.cli_commands.specs.Lines.{at_most}
use Rattle.cli_commands.specs.Sizes.{usual_sizes}
use Rattle.cli_commands.specs.Taking.{taken_in}
use Rattle.cli_commands.specs.declared.status.Status.TheVariants.{Done}
use Rattle.cli_commands.specs.Printed.{Printed, printed, joined}
use Rattle.cli_commands.specs.Drafts.{OrderLine, empty, comment, sizes, words, bad, line_told}
use Rattle.cli_commands.specs.Back.{size_after, line_or_flaw}

-- what lines tell: whether a line of sizes may come next, the sizes, the size of the last record, how many records
-- have begun, the one that has not ended, and the lines of those that have, or the first that cannot be written
pub record Backward : Type 0 where
  pub size_line : SizeLine
  pub geometry : Sizes
  pub size : Size
  pub count : ℕ
  pub current : Option Partial
  pub text : Result (List ℕ) Fault

abbrev pub nothing : Backward
nothing = record { size_line = Allowed; geometry = usual_sizes; size = usual_sizes.default; count = 0; current = None; text = Ok [] }

-- a record has ended, and its line follows
abbrev pub with_line : Backward → Partial → Size → Backward
with_line told draft size =
    record told { size = size; current = None; text = joined told.text (line_or_flaw (told.count - 1) (bytes_in draft)) }

-- the record that has begun has ended
abbrev pub ended : Backward → Option Partial → Backward
ended told None = told
ended told (Some draft) = with_line told draft (size_after told.geometry told.size draft.command)

-- a command begins a record, of which there are at most 1,000
abbrev pub begun : ℕ → Backward → Command → Option Partial → Result Backward Fault
begun number told it (Some draft) = Err (BadLine number)
begun number told it None =
    at_most (told.count + 1) 1000 >>= λ few.
    Ok (record told { size_line = Refused; count = told.count + 1; current = Some (no_order told.geometry.mode (cells_of (size_after told.geometry told.size it)) it) })

-- an order belongs to the record that has begun
abbrev pub added : ℕ → Backward → Item → Option Partial → Result Backward Fault
added number told it None = Err (BadLine number)
added number told it (Some draft) = Ok (record told { current = Some (with_order draft it) })

-- what the line of this number adds
abbrev pub after_line : ℕ → Backward → OrderLine → Result Backward Fault
after_line number told empty = Ok (ended told told.current)
after_line number told comment = Ok told
after_line number told (sizes geometry) = Ok (record told { size_line = Refused; geometry = geometry; size = geometry.default })
after_line number told (words (command it)) = begun number told it told.current
after_line number told (words (order it)) = added number told it told.current
after_line number told bad = Err (BadLine number)

abbrev pub take_line : ℕ → Backward → List ℕ → Result Backward Fault
take_line number told line = after_line number told (line_told told.size_line line)

-- the end of the input ends a record, too
abbrev pub text_after : Backward → Result (List ℕ) Fault
text_after told = (ended told told.current).text

-- what all lines add, or the first fault
abbrev pub backward_in : List ℕ → Result Backward Fault
backward_in input = taken_in take_line nothing input

-- the lines of all records, or the first fault
abbrev pub text_of : List ℕ → Result (List ℕ) Fault
text_of input = backward_in input >>= text_after

-- the same as it is printed
abbrev pub answer_to : List ℕ → Result Printed Fault
answer_to input = text_of input >>= λ text. Ok (printed text Done)
