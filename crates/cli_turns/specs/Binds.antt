-- What `bind --turns` prints, as a function of its inputs and of how fields are printed, and its status.
use Rattle.std.specs.Prelude.{ℕ, ◌+◌, ◌==◌, List, [], ◌∷◌, ◌++◌, codes, length, Result, Ok, Err, if◌then◌else◌}
use Rattle.std.specs.Fmt.{decimal}
use Rattle.ds_codec.specs.Reading.{◌>>=◌}
use Rattle.scr_layout.specs.Layout.{Declaration}
use Rattle.cli_binds.specs.declared.fields.Form.{Form}
use Rattle.cli_binds.specs.Bind.{bind_answers}
use Rattle.cli_commands.specs.declared.fault.Fault.{Fault}
use Rattle.cli_commands.specs.declared.fault.Fault.TheVariants.{OtherCount}
use Rattle.cli_commands.specs.declared.status.Status.TheVariants.{Done}
use Rattle.cli_commands.specs.Lines.{within_limit}
use Rattle.cli_commands.specs.Printed.{Printed, printed, printed_or_fault}
use Rattle.cli_commands.specs.Talk.{layouts_from}
use Rattle.cli_turns.specs.Drafts.{after_text}
use Rattle.cli_turns.specs.Part.{count_of, records_of}

abbrev pub turn_line : ℕ → List ℕ
turn_line turn = codes "turn " ++ (decimal turn ++ codes "\n")

-- what `bind` answers to the answers of a turn
unfoldable pub bound_of : Form → Declaration → ℕ → List ℕ → Result Printed Fault
bound_of form layout turn text = bind_answers form layout (records_of turn text)

abbrev pub turn_before : ℕ → Result Printed Fault → Result Printed Fault → Result Printed Fault
turn_before turn (Ok one) others = after_text (turn_line turn ++ one.text) one.status others
turn_before turn (Err fault) others = Err fault

-- the turns from this one on, each by its layout, or the first fault
abbrev pub bound_from : Form → List ℕ → ℕ → List Declaration → Result Printed Fault
bound_from form text turn [] = Ok (printed [] Done)
bound_from form text turn (layout ∷ layouts) = turn_before turn (bound_of form layout turn text) (bound_from form text (turn + 1) layouts)

-- as many turns as layouts
abbrev pub if_as_many : Form → List Declaration → List ℕ → ℕ → Result Printed Fault
if_as_many form layouts text turns = if turns == length layouts then bound_from form text 0 layouts else Err (OtherCount turns (length layouts))

abbrev pub bound_turns : Form → List Declaration → List ℕ → Result Printed Fault
bound_turns form layouts input = within_limit input >>= λ text. if_as_many form layouts text (count_of 16777216 text + 1)

-- the faults of the layouts come first
abbrev pub bind_turns : Form → List (List ℕ) → List ℕ → Result Printed Fault
bind_turns form texts input = layouts_from 0 [] texts >>= λ layouts. bound_turns form layouts input

-- what `bind --turns` prints for its layouts' texts and answers, and its status
abbrev pub printed_bind_turns : Form → List (List ℕ) → List ℕ → Printed
printed_bind_turns form texts input = printed_or_fault (bind_turns form texts input)
