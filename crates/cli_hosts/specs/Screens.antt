-- Hosts of one screen.
use Rattle.std.specs.Prelude.{ℕ, ◌≡◌, List}
use Rattle.scr_layout.specs.Entry.{Declared}
use Rattle.session_hub.specs.Hubs.{Room}
use Rattle.cli_hosts.specs.declared.settling.Settled.{Settled}
use Rattle.cli_hosts.specs.Hosting.{Hosting}
use Rattle.cli_hosts.specs.Words.{Word, word_lines, settled_of}

-- the hub, and the entries of the layout by which answers are read
pub record ScreenHosting : Type 0 where
  pub room : Room Hosting
  pub entries : List Declared

-- the lines of what is told of it, which is a good end or a failure
abbrev pub IsToldOf : List Declared → ℕ → Settled → List ℕ → Type 0
IsToldOf entries number settled text = (word : Word) × (text ≡ word_lines entries number word) × (settled ≡ settled_of word)
