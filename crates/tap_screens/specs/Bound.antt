-- The lines of an answer that is read back into the fields of its screen's layout.
use Rattle.std.specs.Prelude.{ℕ, List, ◌++◌, codes, Result, Ok, Err}
use Rattle.hex.specs.Hex.{encode_upper}
use Rattle.cli_commands.specs.declared.fault.Fault.{Fault}
use Rattle.cli_commands.specs.declared.status.Status.{Status}
use Rattle.cli_commands.specs.declared.status.Status.TheVariants.{Done, BadInput}
use Rattle.cli_commands.specs.Fault.{fault_text}
use Rattle.cli_commands.specs.Lines.{lines_in}
use Rattle.cli_commands.specs.Printed.{Printed}
use Rattle.cli_binds.specs.declared.fields.Form.TheVariants.{Text}
use Rattle.cli_binds.specs.Bind.{bind_answers}
use Rattle.script_checks.specs.Named.{Named}
use Rattle.tap_screens.specs.Text.{line_after, lines_after, other_lines}

-- what each line of a screen begins with
abbrev pub screen_front : List ℕ → List ℕ
screen_front name = codes "# screen " ++ (name ++ codes ": ")

-- Each field is a comment. An answer that isn't bound is said of the screen.
abbrev pub printed_text : List ℕ → List ℕ → Status → List ℕ
printed_text name text Done = lines_after (codes "# ") (lines_in (other_lines text))
printed_text name text status = lines_after (screen_front name) (lines_in text)

abbrev pub bound_in : List ℕ → Result Printed Fault → List ℕ
bound_in name (Ok printed) = printed_text name printed.text printed.status
bound_in name (Err fault) = line_after (screen_front name) (fault_text fault)

-- as `bind --text` reads it
abbrev pub bound_text : Named → List ℕ → List ℕ
bound_text one bytes = bound_in one.name (bind_answers Text one.layout (encode_upper bytes))
