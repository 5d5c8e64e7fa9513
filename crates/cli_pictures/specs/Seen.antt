-- What an operator sees of a screen, as a terminal shows it.
use Rattle.std.specs.Prelude.{ℕ, ◌+◌, not, ◌==◌, Option, Some, None, unwrap_or, List, if◌then◌else◌}
use Rattle.ds_codec.specs.declared.cell.Cell.{Cell}
use Rattle.ds_codec.specs.declared.cell.Cell.TheVariants.{Field, Char}
use Rattle.ds_codec.specs.Attribute.{is_hidden}
use Rattle.ds_screen.specs.Ring.{least}
use Rattle.ds_screen.specs.Picture.{cell_at}
use Rattle.ds_screen.specs.Fields.{ruling_bits, is_open}
use Rattle.ds_screen.specs.Shown.{text_of}

-- what is seen of a character: nothing of a space
abbrev pub inked : ℕ → Option ℕ
inked character = if character == 32 then None else Some character

-- What is seen of a cell, by the bits that rule it: nothing of an attribute, a null or a character of a hidden field, of
-- another the character that is printed for it.
abbrev pub seen_under : ℕ → Cell → Option ℕ
seen_under bits (Field attribute) = None
seen_under bits (Char character) =
    if character.code == 0 then None else (if is_hidden bits then None else inked (text_of character))

abbrev pub seen_at : List Cell → ℕ → Option ℕ
seen_at cells p = seen_under (ruling_bits cells p) (cell_at cells p)

-- a space where nothing is seen
abbrev pub shown_at : List Cell → ℕ → ℕ
shown_at cells p = unwrap_or (seen_at cells p) 32

-- how many of so many positions from p on may be typed over, up to the first that may not
abbrev pub open_length : List Cell → ℕ → ℕ → ℕ
open_length cells p most = unwrap_or (least most (λ d. not (is_open cells (p + d)))) most
