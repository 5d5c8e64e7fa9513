-- What is printed for a source that is refused.
use Rattle.std.specs.Prelude.{ℕ, List, ◌++◌, codes, Result, Ok, Err}
use Rattle.bms_source.specs.Printed.{refusal_text}
use Rattle.bms_source.specs.Told.{Told}
use Rattle.cli_commands.specs.declared.fault.Fault.{Fault}
use Rattle.cli_commands.specs.declared.status.Status.TheVariants.{BadInput}
use Rattle.cli_commands.specs.Printed.{Printed, printed}

abbrev pub refusal_words : Told → List ℕ
refusal_words told = codes "map refused: " ++ refusal_text told

abbrev pub refused : Told → Printed
refused told = printed (refusal_words told ++ codes "\n") BadInput

-- what is printed of a reading, or its refusal
abbrev pub or_refused : {A : Type 0} → (A → Result Printed Fault) → Result A Told → Result Printed Fault
or_refused answer (Ok value) = answer value
or_refused answer (Err told) = Ok (refused told)
