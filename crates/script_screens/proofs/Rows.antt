-- Worked rows, computed: what s3270 4.1 reads and types.
use Rattle.std.proofs.Common.{◌≡◌, [], ◌∷◌, codes, refl, Some, None, Ok, Err}
use Rattle.ds_codec.specs.declared.size.Size.{Size}
use Rattle.script_screens.specs.declared.code_page.CodePage.TheVariants.{Bracket, CodePage037}
use Rattle.script_screens.specs.declared.region.Region.TheVariants.{Stretch, Rectangle}
use Rattle.script_screens.specs.declared.region.RegionFault.TheVariants.{Count, Invalid}
use Rattle.script_screens.specs.declared.pieces.Piece.TheVariants.{Character, Key, Fault}
use Rattle.script_screens.specs.declared.pieces.StringKey.TheVariants.{Newline, Pf}
use Rattle.script_screens.specs.declared.pieces.StringFault.TheVariants.{MissingData, MissingDigits, UnknownPf}
use Rattle.script_screens.specs.declared.key.Typed.TheVariants.{Code, NoCode, Unknown}
use Rattle.script_screens.specs.Characters.{character_of, code_of}
use Rattle.script_screens.specs.Numbers.{number_of}
use Rattle.script_screens.specs.Regions.{region_of, line_count, run_of}
use Rattle.script_screens.specs.Shown.{utf8}
use Rattle.script_screens.specs.Pieces.{piece_at}
use Rattle.script_screens.specs.Key.{key_of}
use Rattle.script_screens.specs.KeyNames.{character_named}

-- ---- characters

bracket : code_of Bracket 0x5B ≡ Some 0xAD
unfolding code_of
bracket = refl

bracket_in_037 : code_of CodePage037 0x5B ≡ Some 0xBA
unfolding code_of
bracket_in_037 = refl

in_its_place : character_of Bracket 0xBA ≡ Some 0xDD
unfolding character_of
in_its_place = refl

of_two_bytes : utf8 0xE9 ≡ 0xC3 ∷ 0xA9 ∷ []
of_two_bytes = refl

-- ---- numbers

rest_is_ignored : number_of (codes "3x") ≡ Some 3
rest_is_ignored = refl

no_digit : number_of (codes "x") ≡ Some 0
no_digit = refl

below_0 : number_of (codes "-1") ≡ None
below_0 = refl

-- ---- cells

abbrev size : Size
size = record { rows = 24; cols = 80 }

next_row : region_of size 259 0 (codes "0" ∷ codes "80" ∷ codes "1" ∷ []) ≡ Ok (Stretch 80 1)
next_row = refl

past_it : region_of size 259 0 (codes "0" ∷ codes "81" ∷ codes "1" ∷ []) ≡ Err Invalid
past_it = refl

from_1 : region_of size 259 1 (codes "4" ∷ codes "10" ∷ codes "2" ∷ codes "10" ∷ []) ≡ Ok (Rectangle 3 9 2 10)
from_1 = refl

past_the_edge : region_of size 259 0 (codes "3" ∷ codes "70" ∷ codes "2" ∷ codes "11" ∷ []) ≡ Err Invalid
past_the_edge = refl

two_numbers : region_of size 259 0 (codes "1" ∷ codes "2" ∷ []) ≡ Err Count
two_numbers = refl

-- 100 cells from row 3, column 10: 70 of this row, and 30 of the next
two_lines : line_count 80 (Stretch 250 100) ≡ 2
two_lines = refl

first_line : run_of 1920 80 (Stretch 250 100) 0 ≡ record { start = 250; length = 70 }
first_line = refl

second_line : run_of 1920 80 (Stretch 250 100) 1 ≡ record { start = 320; length = 30 }
second_line = refl

-- a field from row 23, column 71 on round the end
round_the_end : run_of 1920 80 (Stretch 1911 19) 1 ≡ record { start = 0; length = 10 }
round_the_end = refl

-- ---- texts

newline : piece_at Bracket (codes "\\rA") ≡ Some (Key Newline, codes "A")
newline = refl

function : piece_at Bracket (codes "\\pf123") ≡ Some (Key (Pf 12), codes "3")
function = refl

no_such_function : piece_at Bracket (codes "\\pf32x") ≡ Some (Fault (UnknownPf 32), codes "x")
no_such_function = refl

nothing_after : piece_at Bracket (codes "\\") ≡ Some (Fault MissingData, [])
nothing_after = refl

no_digits : piece_at Bracket (codes "\\xg") ≡ Some (Fault MissingDigits, codes "g")
no_digits = refl

numbered : piece_at Bracket (codes "\\x41G") ≡ Some (Character 0xC1, codes "G")
unfolding code_of
numbered = refl

-- ---- keys

named : key_of Bracket (codes "exclam") ≡ Code 0x5A
unfolding code_of character_named
named = refl

by_number : key_of Bracket (codes "U+e9") ≡ Code 0x51
unfolding code_of character_named
by_number = refl

without_code : key_of Bracket (codes "0x20ac") ≡ NoCode
unfolding code_of character_named
without_code = refl

unknown : key_of Bracket (codes "ab") ≡ Unknown
unfolding code_of character_named
unknown = refl
