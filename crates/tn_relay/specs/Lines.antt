-- What one read or one write of a line does.
use Rattle.std.specs.Prelude.{◌≡◌, ◌<◌, ◌≤◌, ℕ, List, ◌++◌, length, take}
use Rattle.tn_relay.specs.declared.line.Gave.{Gave}
use Rattle.tn_relay.specs.declared.line.Gave.TheVariants.{Bytes as GaveBytes, Nothing as GaveNothing, End}
use Rattle.tn_relay.specs.declared.line.Took.{Took}
use Rattle.tn_relay.specs.declared.line.Took.TheVariants.{Bytes as TookBytes, Nothing as TookNothing, Failed}

-- a read gave these bytes at the front of a buffer, or none
abbrev pub Gives : List ℕ → List ℕ → List ℕ → Gave → Type 0
Gives old new piece (GaveBytes count) = (0 < count) × (count ≤ length piece) × (new ≡ old ++ take count piece)
Gives old new piece GaveNothing = new ≡ old
Gives old new piece End = new ≡ old

-- a write took a front of these bytes, or none
abbrev pub Takes : List ℕ → List ℕ → List ℕ → Took → Type 0
Takes old new bytes (TookBytes count) = (0 < count) × (count ≤ length bytes) × (new ≡ old ++ take count bytes)
Takes old new bytes TookNothing = new ≡ old
Takes old new bytes Failed = new ≡ old
