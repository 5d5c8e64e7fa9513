-- What cells hold, with nothing left out.
use Rattle.std.specs.Prelude.{ℕ, ◌+◌, ◌%◌, ◌==◌, Bool, false, List, map, length, if◌then◌else◌}
use Rattle.std.specs.List.{flat_map, range_with_len}
use Rattle.ds_codec.specs.declared.cell.Cell.{Cell}
use Rattle.ds_codec.specs.declared.cell.Cell.TheVariants.{Field, Char}
use Rattle.ds_screen.specs.Picture.{cell_at}
use Rattle.ds_screen.specs.Shown.{text_of}
use Rattle.order_lines.specs.Print.{hex_byte}

-- the code of a cell's character; of an attribute 1D, the order that starts a field: no character has this code
abbrev pub code_of : Cell → ℕ
code_of (Field attribute) = 0x1D
code_of (Char character) = character.code

-- whether the character is of the alternate set, in which its code says another one
abbrev pub is_alternate : Cell → Bool
is_alternate (Field attribute) = false
is_alternate (Char character) = character.alt

-- a space for a null, else the character that `show` prints where the operator sees it
abbrev pub character_of : Cell → ℕ
character_of (Field attribute) = 32
character_of (Char character) = if character.code == 0 then 32 else text_of character

-- the position so many on from p, of n; after the last one comes the first one
abbrev pub place_on : ℕ → ℕ → ℕ → ℕ
place_on n p steps = (p + steps) % n

abbrev pub cell_on : List Cell → ℕ → ℕ → Cell
cell_on cells p steps = cell_at cells (place_on (length cells) p steps)

abbrev pub code_on : List Cell → ℕ → ℕ → List ℕ
code_on cells p steps = hex_byte (code_of (cell_on cells p steps))

abbrev pub character_on : List Cell → ℕ → ℕ → ℕ
character_on cells p steps = character_of (cell_on cells p steps)

-- the codes of so many cells from p on, two digits each
abbrev pub codes_on : List Cell → ℕ → ℕ → List ℕ
codes_on cells p count = flat_map (code_on cells p) (range_with_len 0 count)

-- the characters of so many cells from p on
abbrev pub characters_on : List Cell → ℕ → ℕ → List ℕ
characters_on cells p count = map (character_on cells p) (range_with_len 0 count)
