-- What was printed of terminals: their lines, whole, one terminal after the other.
use Rattle.std.specs.Prelude.{ℕ, ◌≡◌, ◌⊎◌, true, false, List, [], ◌∷◌, ◌++◌, Result, Ok, Err}
use Rattle.scr_layout.specs.Entry.{Declared}
use Rattle.cli_sessions.specs.Printing.{Printing, IsPrinted}
use Rattle.cli_hosts.specs.Words.{Word, word_lines}
use Rattle.cli_hosts.specs.Writing.{Writes}

-- terminals by their numbers, and what is told of each
abbrev pub told_text : List Declared → List (ℕ × Word) → List ℕ
told_text entries [] = []
told_text entries (one ∷ told) = word_lines entries one.0 one.1 ++ told_text entries told

pub record PrintsTerminals (entries : List Declared) (old new : Printing) : Type 0 where
  pub told : List (ℕ × Word)
  pub written : IsPrinted old new (told_text entries told) true

-- the lines of one more could not be written
abbrev pub PrintsPart : List Declared → Printing → Printing → Type 0
PrintsPart entries old new = (number : ℕ) × (word : Word) × Writes old new (word_lines entries number word) false

-- The lines of terminals were written, whole, and then no more, or a front of those of one more.
pub record PrintsFront (entries : List Declared) (old new : Printing) : Type 0 where
  pub middle : Printing
  pub whole : PrintsTerminals entries old middle
  pub last : (new ≡ middle) ⊎ PrintsPart entries middle new

abbrev pub PrintsMore : {A E : Type 0} → List Declared → Printing → Printing → Result A E → Type 0
PrintsMore entries old new (Ok done) = PrintsTerminals entries old new
PrintsMore entries old new (Err status) = PrintsFront entries old new
