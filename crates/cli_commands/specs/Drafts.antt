-- Order lines, and the records that they tell.
use Rattle.std.specs.Prelude.{ℕ, ◌+◌, ◌==◌, List, [], ◌∷◌, ◌++◌, length, Option, Some, None, Result, Ok, Err, if◌then◌else◌}
use Rattle.std.specs.Str.{is_utf8}
use Rattle.ds_codec.specs.declared.command.Command.{Command}
use Rattle.ds_codec.specs.Geometry.{Sizes}
use Rattle.ds_codec.specs.Order.{Item}
use Rattle.ds_codec.specs.Reading.{◌>>=◌}
use Rattle.order_lines.specs.Told.{Told, command, order, told_of}
use Rattle.order_lines.specs.Draft.{Draft}
use Rattle.cli_commands.specs.declared.fault.Fault.{Fault}
use Rattle.cli_commands.specs.declared.fault.Fault.TheVariants.{BadLine}
use Rattle.cli_commands.specs.declared.input.sizes.SizeLine.{SizeLine}
use Rattle.cli_commands.specs.declared.input.sizes.SizeLine.TheVariants.{Allowed, Refused}
use Rattle.cli_commands.specs.Lines.{lines_in, at_most, within_limit}
use Rattle.cli_commands.specs.Sizes.{usual_sizes, sizes_told}
use Rattle.cli_commands.specs.Taking.{taken}

-- ---- one line

-- an empty line, which ends a record; a comment; sizes; a command or an order
pub data OrderLine : Type 0 where
  empty : OrderLine
  comment : OrderLine
  sizes : (geometry : Sizes) → OrderLine
  words : (told : Told) → OrderLine
  bad : OrderLine

abbrev pub sizes_or_words : Option Sizes → Option Told → OrderLine
sizes_or_words (Some geometry) told = sizes geometry
sizes_or_words None (Some told) = words told
sizes_or_words None None = bad

-- spaces count
abbrev pub text_told : SizeLine → List ℕ → OrderLine
text_told size_line [] = empty
text_told size_line (b ∷ bs) =
    if b == 0x23 then comment else sizes_or_words (sizes_told size_line (b ∷ bs)) (told_of (b ∷ bs))

unfoldable pub line_told : SizeLine → List ℕ → OrderLine
line_told size_line line = if is_utf8 line then text_told size_line line else bad

-- ---- lines in turn

-- what lines tell: whether a line of sizes may come next, the sizes, the records that have ended, and the one
-- that has not
pub record Drafts : Type 0 where
  pub size_line : SizeLine
  pub geometry : Sizes
  pub ended : List Draft
  pub current : Option Draft

abbrev pub no_drafts : Drafts
no_drafts = record { size_line = Allowed; geometry = usual_sizes; ended = []; current = None }

abbrev pub all_drafts : List Draft → Option Draft → List Draft
all_drafts ended None = ended
all_drafts ended (Some draft) = ended ++ draft ∷ []

-- the record that has begun has ended
abbrev pub finished : Drafts → Drafts
finished drafts = record drafts { ended = all_drafts drafts.ended drafts.current; current = None }

-- a command begins a record, of which there are at most 1,000
abbrev pub after_command : ℕ → Drafts → Command → Option Draft → Result Drafts Fault
after_command number drafts told (Some draft) = Err (BadLine number)
after_command number drafts told None =
    at_most (length drafts.ended + 1) 1000 >>= λ few.
    Ok (record drafts { size_line = Refused; current = Some (record { command = told; orders = [] }) })

-- an order belongs to the record that has begun
abbrev pub after_order : ℕ → Drafts → Item → Option Draft → Result Drafts Fault
after_order number drafts told None = Err (BadLine number)
after_order number drafts told (Some draft) = Ok (record drafts { current = Some (record draft { orders = draft.orders ++ told ∷ [] }) })

-- what the line of this number adds
abbrev pub after_told : ℕ → Drafts → OrderLine → Result Drafts Fault
after_told number drafts empty = Ok (finished drafts)
after_told number drafts comment = Ok drafts
after_told number drafts (sizes geometry) = Ok (record drafts { size_line = Refused; geometry = geometry })
after_told number drafts (words (command told)) = after_command number drafts told drafts.current
after_told number drafts (words (order told)) = after_order number drafts told drafts.current
after_told number drafts bad = Err (BadLine number)

abbrev pub take_order_line : ℕ → Drafts → List ℕ → Result Drafts Fault
take_order_line number drafts line = after_told number drafts (line_told drafts.size_line line)

-- the end of the input ends a record, too
abbrev pub drafts_in_lines : List (List ℕ) → Result Drafts Fault
drafts_in_lines lines = taken take_order_line 1 no_drafts lines >>= λ drafts. Ok (finished drafts)

-- the sizes and the records of an input, or its first fault
abbrev pub drafts_in : List ℕ → Result Drafts Fault
drafts_in input = within_limit input >>= λ text. drafts_in_lines (lines_in text)
