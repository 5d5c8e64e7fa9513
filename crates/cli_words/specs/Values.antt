-- The values that words of a command line were given.
use Rattle.std.specs.Prelude.{◌≡◌, ◌<◌, ℕ, List, Option, Some, option_map}
use Rattle.std.specs.Fmt.{decimal}
use Rattle.std.specs.Borrow.{Bor}
use Rattle.clap.specs.Words.{Row, Text, first_of, one_of}

-- the text that was given for a word: a path, or a name
abbrev pub IsText : Text → List Row → Bor Text → Type 0
IsText word rows given = (text : Text) → first_of word rows ≡ Some text → given.now ≡ text

-- the path that was given for an option, where it was
abbrev pub IsPath : Text → List Row → Option (Bor Text) → Type 0
IsPath option rows given = option_map (λ path. path.now) given ≡ first_of option rows

-- the number below 65,536 that was given for a word, in decimal
abbrev pub IsNumber : Text → List Row → ℕ → Type 0
IsNumber word rows given = (number : ℕ) → number < 65536 → one_of word rows ≡ Some (decimal number) → given ≡ number
