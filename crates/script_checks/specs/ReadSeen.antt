-- A layout's file as the program holds it.
use Rattle.std.specs.Prelude.{ℕ, List, Result, Ok, Err}
use Rattle.script_checks.specs.declared.read.LayoutText.{LayoutText}
use Rattle.script_checks.specs.declared.read.LayoutText.TheVariants.{Text, Unreadable}

-- its text, or why it can't be read
abbrev pub read_seen : LayoutText → Result (List ℕ) (List ℕ)
read_seen (Text text) = Ok text.now
read_seen (Unreadable cause) = Err cause.now
