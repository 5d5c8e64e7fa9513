-- What `convert --back` prints: the bytes of the records that order lines tell.
use Rattle.std.specs.Prelude.{ℕ, ◌+◌, List, [], ◌∷◌, ◌++◌, codes, Result, Ok, Err}
use Rattle.hex.specs.Hex.{encode_upper}
use Rattle.ds_codec.specs.declared.size.Size.{Size}
use Rattle.ds_codec.specs.declared.command.Command.{Command}
use Rattle.ds_codec.specs.declared.command.Command.TheVariants.{EraseWrite, EraseWriteAlternate}
use Rattle.ds_codec.specs.declared.write.Unwritable as flaw
use Rattle.ds_codec.specs.Geometry.{Sizes, cells_of}
use Rattle.ds_codec.specs.Reading.{◌>>=◌}
use Rattle.order_lines.specs.Draft.{Draft, written_of}
use Rattle.cli_commands.specs.declared.fault.Fault.{Fault}
use Rattle.cli_commands.specs.declared.fault.Fault.TheVariants.{Unwritable}
use Rattle.cli_commands.specs.declared.status.Status.TheVariants.{Done}
use Rattle.cli_commands.specs.Drafts.{drafts_in}
use Rattle.cli_commands.specs.Printed.{Printed, printed, printed_or_fault, joined}

-- the size for which a record is written: an erase sets it, for this record and those after it
abbrev pub size_after : Sizes → Size → Command → Size
size_after geometry size (EraseWrite wcc) = geometry.default
size_after geometry size (EraseWriteAlternate wcc) = geometry.alternate
size_after geometry size command = size

abbrev pub bytes_line : List ℕ → List ℕ
bytes_line bytes = encode_upper bytes ++ codes "\n"

abbrev pub line_or_flaw : ℕ → Result (List ℕ) flaw.Unwritable → Result (List ℕ) Fault
line_or_flaw index (Ok bytes) = Ok (bytes_line bytes)
line_or_flaw index (Err flaw) = Err (Unwritable index flaw)

-- the line of each record, one after the other, or the first record that cannot be written
abbrev pub lines_written : Sizes → Size → ℕ → List Draft → Result (List ℕ) Fault
lines_written geometry size index [] = Ok []
lines_written geometry size index (draft ∷ others) =
    joined (line_or_flaw index (written_of geometry.mode (cells_of (size_after geometry size draft.command)) draft))
    (lines_written geometry (size_after geometry size draft.command) (index + 1) others)

abbrev pub back : List ℕ → Result Printed Fault
back input = do
  drafts ← drafts_in input
  lines ← lines_written drafts.geometry drafts.geometry.default 0 drafts.ended
  Ok (printed lines Done)

-- what `convert --back` prints for an input, and its status
abbrev pub printed_back : List ℕ → Printed
printed_back input = printed_or_fault (back input)
