-- The shape of a picture: what the operator can't change of it without Clear.
use Rattle.std.specs.Prelude.{◌≡◌, false, List, map}
use Rattle.ds_codec.specs.declared.cell.Cell.{Cell}
use Rattle.ds_codec.specs.declared.cell.Cell.TheVariants.{Field, Char}
use Rattle.ds_codec.specs.declared.size.Size.{Size}
use Rattle.ds_screen.specs.Picture.{Picture, blank}
use Rattle.ds_screen.specs.Records.{unprotected_unmodified}
use Rattle.ds_keys.specs.declared.key.Key.{Key}
use Rattle.ds_keys.specs.KeyRuns.{after_key, IsAccepted}
use Rattle.ds_keys.specs.Laws.{is_clear}

-- the form of a cell: an attribute with its bits, an unprotected one's modified data tag aside; of a character nothing
abbrev pub form_of : Cell → Cell
form_of (Field bits) = unprotected_unmodified (Field bits)
form_of (Char character) = blank

-- the size, and the positions of the attributes with their bits
pub record Shape : Type 0 where
  pub size : Size
  pub forms : List Cell

abbrev pub shape_of : Picture → Shape
shape_of v = record { size = v.size; forms = map form_of v.cells }

-- the shape law
abbrev pub KeyKeepsShape : Type 0
KeyKeepsShape = (v : Picture) (key : Key) → IsAccepted v key → is_clear key ≡ false → shape_of (after_key v key) ≡ shape_of v
