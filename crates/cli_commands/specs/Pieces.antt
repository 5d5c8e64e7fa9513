-- Texts that are written piece by piece. This is for the code's own proofs.
use Rattle.std.specs.Prelude.{◌≡◌, ℕ, List, ◌++◌, Option}
use Rattle.std.specs.Io.KnownBytes.{Appends}
use Rattle.cli_commands.specs.declared.status.Status.{Status}
use Rattle.cli_commands.specs.Streams.{AppendsFront, IsWantOrFailure}

-- a front of the text was written, and this is left of it
abbrev pub WritesOn : Option (List ℕ) → Option (List ℕ) → List ℕ → List ℕ → Type 0
WritesOn old new text left = (front : List ℕ) × (text ≡ front ++ left) × Appends old new front

-- something failed after a front of the text
abbrev pub Stops : Option (List ℕ) → Option (List ℕ) → List ℕ → Status → Type 0
Stops old new text status = IsWantOrFailure status × AppendsFront old new text
