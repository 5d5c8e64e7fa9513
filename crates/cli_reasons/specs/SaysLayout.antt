-- What is said of a layout.
use Rattle.std.specs.Prelude.{◌≡◌, ℕ, List, ◌++◌, codes, Option, Some, None, Result, Ok, Err, IfSome}
use Rattle.scr_layout.specs.Layout.{Declaration}
use Rattle.scr_layout.specs.declared.fault.LayoutFault.{LayoutFault}
use Rattle.cli_commands.specs.declared.fault.Fault.{Fault}
use Rattle.cli_commands.specs.declared.fault.Fault.TheVariants.{LayoutRefused}
use Rattle.cli_reasons.specs.LayoutFault.{key_fault_text}

-- of a key that is refused exactly this is said
abbrev pub SaysFault : List ℕ → List ℕ → LayoutFault → List ℕ → Type 0
SaysFault name text fault said = IfSome fault.which (λ key. said ≡ key_fault_text name text fault ++ codes "\n")

-- a sentence stands where the layout is refused, and nowhere else
abbrev pub SaysLayout : List ℕ → List ℕ → Option (List ℕ) → Result Declaration Fault → Type 0
SaysLayout name text None (Ok layout) = Unit {0}
SaysLayout name text (Some said) (Ok layout) = ⊥
SaysLayout name text None (Err fault) = ⊥
SaysLayout name text (Some said) (Err (LayoutRefused fault)) = SaysFault name text fault said
SaysLayout name text (Some said) (Err other) = Unit {0}
