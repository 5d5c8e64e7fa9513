-- The layouts of a folder, for terminals of any sizes.
use Rattle.std.specs.Prelude.{ℕ, List, [], ◌∷◌, ◌++◌, Result, Ok, Err}
use Rattle.scr_layout.specs.Layout.{Declaration}
use Rattle.cli_commands.specs.declared.fault.Fault.{Fault}
use Rattle.script_checks.specs.Lines.{clean}
use Rattle.script_checks.specs.Named.{Named}

abbrev pub added : Result Declaration Fault → Result (Unit {0}) Fault
added (Ok layout) = Ok tt
added (Err fault) = Err fault

-- A layout goes by its name, in which ? stands for each control.
abbrev pub with_layout : List Named → List ℕ → Result Declaration Fault → List Named
with_layout all name (Ok layout) = all ++ record { name = clean name; layout = layout } ∷ []
with_layout all name (Err fault) = all
