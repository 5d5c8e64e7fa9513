-- What `convert --chars` prints, and `convert --back --chars`.
use Rattle.std.specs.Prelude.{ℕ, List, Result, Ok}
use Rattle.ds_codec.specs.Reading.{◌>>=◌}
use Rattle.cli_commands.specs.declared.fault.Fault.{Fault}
use Rattle.cli_commands.specs.Back.{back}
use Rattle.cli_commands.specs.Convert.{convert}
use Rattle.cli_commands.specs.Lines.{within_limit}
use Rattle.cli_commands.specs.Printed.{Printed, printed, printed_or_fault}
use Rattle.cli_characters.specs.Orders.{character_text, plain_text}

abbrev pub with_characters : Printed → Printed
with_characters answer = printed (character_text answer.text) answer.status

-- what `convert` answers, its texts by their characters
abbrev pub convert_characters : List ℕ → Result Printed Fault
convert_characters input = convert input >>= λ answer. Ok (with_characters answer)

abbrev pub printed_convert_characters : List ℕ → Printed
printed_convert_characters input = printed_or_fault (convert_characters input)

-- what `convert --back` answers to the same lines, their texts by digits
abbrev pub back_characters : List ℕ → Result Printed Fault
back_characters input = within_limit input >>= λ text. back (plain_text text)

abbrev pub printed_back_characters : List ℕ → Printed
printed_back_characters input = printed_or_fault (back_characters input)
