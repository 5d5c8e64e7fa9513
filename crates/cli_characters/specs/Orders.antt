-- Lines of orders whose texts are characters.
use Rattle.std.specs.Prelude.{ℕ, nat_eq, List, ◌++◌, codes, drop, Option, Some, None, if◌then◌else◌}
use Rattle.std.specs.List.{starts_with}
use Rattle.bstr.specs.Text.{no_cr}
use Rattle.hex.specs.Hex.{encode_upper, decode_of}
use Rattle.ds_codec.specs.Digits.{bytes_from}
use Rattle.cli_characters.specs.Lines.{by_lines}
use Rattle.cli_characters.specs.Operand.{told_of}
use Rattle.cli_characters.specs.Runs.{runs}

abbrev pub word : List ℕ
word = codes "TEXT "

-- ---- as they are printed

abbrev pub with_runs : List ℕ → Option (List ℕ) → List ℕ
with_runs line (Some bytes) = word ++ runs bytes
with_runs line None = line

-- a text is printed by its runs; another line stays
unfoldable pub character_line : List ℕ → List ℕ
character_line line = if starts_with nat_eq line word then with_runs line (bytes_from (decode_of (drop 5 line))) else line

abbrev pub character_text : List ℕ → List ℕ
character_text text = by_lines character_line text

-- ---- as they are read

abbrev pub with_digits : List ℕ → Option (List ℕ) → List ℕ
with_digits line (Some bytes) = word ++ encode_upper bytes
with_digits line None = line

-- a text by its digits, where its runs are good, as `convert --back` reads it; another line stays
unfoldable pub plain_line : List ℕ → List ℕ
plain_line line = if starts_with nat_eq line word then with_digits line (told_of (drop 5 (no_cr line))) else line

abbrev pub plain_text : List ℕ → List ℕ
plain_text text = by_lines plain_line text
