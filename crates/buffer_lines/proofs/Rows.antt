-- Lines as s3270 prints them, worked by hand.
use Rattle.std.proofs.Common.{◌≡◌, true, false, [], ◌∷◌, refl}
use Rattle.std.specs.Prelude.{codes}
use Rattle.ds_codec.specs.declared.cell.Cell.TheVariants as cells
use Rattle.ds_codec.specs.Character.{glyph, is_text}
use Rattle.buffer_lines.specs.Line.{line_told, row, status, silent, refused}

-- a protected numeric attribute with a color, a blank, an alternate character, a null
a_row : line_told (codes "data: SF(c0=f0,42=f2) 40 GE(ad) 00") ≡ row (cells.Field 0x30 ∷ cells.Char (glyph 0x40 false) ∷ cells.Char (glyph 0xAD true) ∷ cells.Char (glyph 0 false) ∷ [])
unfolding is_text
a_row = refl

-- the MDT is the lowest bit
a_modified_field : line_told (codes "SF(c0=c1) C1") ≡ row (cells.Field 1 ∷ cells.Char (glyph 0xC1 false) ∷ [])
unfolding is_text
a_modified_field = refl

-- an attribute of characters is no cell
an_attribute_of_characters : line_told (codes "data: SA(42=f2) c1") ≡ row (cells.Char (glyph 0xC1 false) ∷ [])
unfolding is_text
an_attribute_of_characters = refl

a_status : line_told (codes "U F U C(host) I 2 24 80 3 19 0x0 -") ≡ status (record { rows = 24; cols = 80; row = 3; col = 19 })
a_status = refl

done : line_told (codes "ok") ≡ silent
done = refl

-- a double space, an order's code, a field without its attribute, an open parenthesis
two_spaces : line_told (codes "data: 40  40") ≡ refused
unfolding is_text
two_spaces = refl

no_character : line_told (codes "data: 40 11") ≡ refused
unfolding is_text
no_character = refl

no_attribute : line_told (codes "data: SF(42=f2)") ≡ refused
no_attribute = refl

open_at_the_end : line_told (codes "data: GE(ad") ≡ refused
open_at_the_end = refl
