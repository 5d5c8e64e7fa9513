-- A text as people read it: characters between quotes, and the digits of other bytes beside them.
use Rattle.std.specs.Prelude.{ℕ, List, [], ◌∷◌, ◌++◌, codes, Option, Some, None, if◌then◌else◌, ◌==◌}
use Rattle.order_lines.specs.Print.{hex_byte}
use Rattle.cli_characters.specs.declared.runs.Before.{Before}
use Rattle.cli_characters.specs.declared.runs.Before.TheVariants.{Nothing, Characters, Digits}
use Rattle.cli_characters.specs.Table.{character_of}

-- a quote stands twice
abbrev pub in_quotes : ℕ → List ℕ
in_quotes character = if character == 39 then codes "''" else character ∷ []

-- what begins a run of characters, where this stands before
abbrev pub opens : Before → List ℕ
opens Nothing = codes "'"
opens Characters = []
opens Digits = codes " '"

-- what comes before a byte without a character
abbrev pub leads : Before → List ℕ
leads Nothing = []
leads Characters = codes "' "
leads Digits = []

-- what ends the text
abbrev pub ends : Before → List ℕ
ends Nothing = []
ends Characters = codes "'"
ends Digits = []

-- a byte by its character, or by its digits
abbrev pub byte_text : Before → ℕ → Option ℕ → List ℕ
byte_text before byte (Some character) = opens before ++ in_quotes character
byte_text before byte None = leads before ++ hex_byte byte

abbrev pub after_byte : Option ℕ → Before
after_byte (Some character) = Characters
after_byte None = Digits

-- the bytes of a text after what stands before
abbrev pub runs_after : Before → List ℕ → List ℕ
runs_after before [] = ends before
runs_after before (byte ∷ bytes) = byte_text before byte (character_of byte) ++ runs_after (after_byte (character_of byte)) bytes

abbrev pub runs : List ℕ → List ℕ
runs bytes = runs_after Nothing bytes
