-- What `bind` prints, as a function of its two inputs and of how fields are printed, and its status.
use Rattle.std.specs.Prelude.{ℕ, ◌+◌, Bool, List, [], ◌∷◌, ◌++◌, Result, Ok, if◌then◌else◌}
use Rattle.std.specs.List.{list_all}
use Rattle.ds_codec.specs.Reading.{◌>>=◌}
use Rattle.scr_layout.specs.Layout.{Declaration}
use Rattle.cli_commands.specs.declared.fault.Fault.{Fault}
use Rattle.cli_commands.specs.declared.input.sizes.SizeLine.TheVariants.{Refused}
use Rattle.cli_commands.specs.declared.status.Status.{Status}
use Rattle.cli_commands.specs.declared.status.Status.TheVariants.{Done, BadInput}
use Rattle.cli_commands.specs.LayoutText.{layout_in}
use Rattle.cli_commands.specs.Printed.{Printed, printed, printed_or_fault}
use Rattle.cli_commands.specs.Records.{records_in}
use Rattle.cli_binds.specs.declared.fields.Form.{Form}
use Rattle.cli_binds.specs.Lines.{told_of, is_bound, answer_lines}

-- the lines of each answer, whatever came of those before it; the first has this index
abbrev pub lines_from : Form → Declaration → ℕ → List (List ℕ) → List ℕ
lines_from form layout index [] = []
lines_from form layout index (bytes ∷ answers) = answer_lines form layout index (told_of layout bytes) ++ lines_from form layout (index + 1) answers

-- every answer is read and bound
abbrev pub are_bound : Declaration → List (List ℕ) → Bool
are_bound layout answers = list_all (λ bytes. is_bound (told_of layout bytes)) answers

abbrev pub status_of : Bool → Status
status_of all = if all then Done else BadInput

-- answers count from 0
abbrev pub printed_answers : Form → Declaration → List (List ℕ) → Printed
printed_answers form layout answers = printed (lines_from form layout 0 answers) (status_of (are_bound layout answers))

abbrev pub bind_answers : Form → Declaration → List ℕ → Result Printed Fault
bind_answers form layout input = records_in Refused input >>= λ told. Ok (printed_answers form layout told.records)

abbrev pub bind : Form → List ℕ → List ℕ → Result Printed Fault
bind form text input = layout_in text >>= λ layout. bind_answers form layout input

-- what `bind` prints for a layout's text and answers, and its status
abbrev pub printed_bind : Form → List ℕ → List ℕ → Printed
printed_bind form text input = printed_or_fault (bind form text input)
