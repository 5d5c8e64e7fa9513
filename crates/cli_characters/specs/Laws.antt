-- The table read backwards, and what is printed read back.
use Rattle.std.specs.Prelude.{◌≡◌, ◌⊎◌, ℕ, ◌<◌, ◌≤◌, false, true, nat_eq, List, [], ◌++◌, codes, length, Some, Ok}
use Rattle.std.specs.List.{flat_map, starts_with}
use Rattle.hex.specs.Hex.{IsBytes}
use Rattle.ds_codec.specs.Geometry.{Sizes}
use Rattle.order_lines.specs.Laws.{are_plain}
use Rattle.cli_commands.specs.declared.status.Status.TheVariants.{Done}
use Rattle.cli_commands.specs.Back.{bytes_line}
use Rattle.cli_commands.specs.Convert.{lines_printed}
use Rattle.cli_commands.specs.Law.{AreBytes, AreTheSame, AllInside, TellsSizes}
use Rattle.cli_commands.specs.Printed.{printed}
use Rattle.cli_characters.specs.Table.{code_of, character_of}
use Rattle.cli_characters.specs.Runs.{runs}
use Rattle.cli_characters.specs.Operand.{told_of}
use Rattle.cli_characters.specs.Orders.{character_text}
use Rattle.cli_characters.specs.Convert.{printed_back_characters}

-- each of the 95 characters is the one that is printed for its code
abbrev pub CodesArePrinted : Type 0
CodesArePrinted = (character code : ℕ) → code_of character ≡ Some code → character_of code ≡ Some character

-- and a code that has one of them is its code
abbrev pub CharactersAreRead : Type 0
CharactersAreRead = (code character : ℕ) → code < 256 → character_of code ≡ Some character → code_of character ≡ Some code

-- the runs of a text spell it
abbrev pub RunsAreRead : Type 0
RunsAreRead = (bytes : List ℕ) → IsBytes bytes → 0 < length bytes → told_of (runs bytes) ≡ Some bytes

-- no line, or one of plain characters that isn't a text's, as each that tells sizes
abbrev pub IsPlainLine : List ℕ → Type 0
IsPlainLine told =
    (told ≡ []) ⊎ ((line : List ℕ) × (told ≡ line ++ codes "\n") × (are_plain line ≡ true) × (starts_with nat_eq line (codes "TEXT ") ≡ false))

-- Lines that `convert` prints, after a line of sizes or none, are read as they are where `convert --chars` printed them.
abbrev pub CharactersConvertBack : Type 0
CharactersConvertBack =
    (told : List ℕ) (geometry : Sizes) (records : List (List ℕ)) (lines : List ℕ)
    → IsPlainLine told → TellsSizes told geometry → AreBytes records → length records ≤ 1000 → lines_printed geometry.mode 0 records ≡ Ok lines
    → AllInside geometry geometry.default records → length (told ++ lines) ≤ 16777216 → length (told ++ character_text lines) ≤ 16777216
    → (others : List (List ℕ)) × (printed_back_characters (told ++ character_text lines) ≡ printed (flat_map bytes_line others) Done) × AreTheSame geometry.mode records others
