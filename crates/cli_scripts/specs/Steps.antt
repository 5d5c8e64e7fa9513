-- How far an action has come.
use Rattle.std.specs.Prelude.{◌≡◌, ℕ, true, List}
use Rattle.cli_scripts.specs.declared.came.Need.TheVariants.{Bytes}
use Rattle.cli_scripts.specs.declared.doing.Doing.TheVariants.{Typing}
use Rattle.cli_scripts.specs.declared.doing.Step.{Step}
use Rattle.cli_scripts.specs.declared.doing.Step.TheVariants.{Waits}

-- it waits for the host, and goes on with this rest of its text
abbrev pub IsTypedLater : List ℕ → Step → Type 0
IsTypedLater rest (Waits (Typing typing) Bytes) = (typing.text.items ≡ rest) × (typing.after_send ≡ true)
IsTypedLater rest step = ⊥
