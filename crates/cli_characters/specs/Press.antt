-- What `press --strokes` prints where strings are typed.
use Rattle.std.specs.Prelude.{ℕ, List, Result}
use Rattle.ds_codec.specs.Reading.{◌>>=◌}
use Rattle.cli_commands.specs.declared.fault.Fault.{Fault}
use Rattle.cli_commands.specs.declared.input.sizes.SizeLine.TheVariants.{Allowed}
use Rattle.cli_commands.specs.Lines.{within_limit}
use Rattle.cli_commands.specs.Printed.{Printed, printed_or_fault}
use Rattle.cli_commands.specs.Records.{records_in}
use Rattle.cli_commands.specs.Strike.{strike}
use Rattle.cli_characters.specs.Strokes.{typed_text, told_in}

abbrev pub strike_text : List ℕ → List ℕ → Result Printed Fault
strike_text records text = told_in text (strike records (typed_text text))

abbrev pub strike_input : List ℕ → List ℕ → Result Printed Fault
strike_input records input = within_limit input >>= strike_text records

-- what `press --strokes` answers to the lines of keys that strings are; the records' lines come first
abbrev pub strike_typed : List ℕ → List ℕ → Result Printed Fault
strike_typed records lines = records_in Allowed records >>= λ told. strike_input records lines

abbrev pub printed_strike_typed : List ℕ → List ℕ → Printed
printed_strike_typed records lines = printed_or_fault (strike_typed records lines)
