-- Characters and their codes.
use Rattle.std.specs.Prelude.{ℕ, ◌-◌, ◌==◌, nat_le, ◌&&◌, Option, Some, None, slice_index, option_map, if◌then◌else◌}
use Rattle.script_screens.specs.declared.code_page.TheConstants.{CHARACTERS, CODES}
use Rattle.script_screens.specs.declared.code_page.CodePage.{CodePage}
use Rattle.script_screens.specs.declared.code_page.CodePage.TheVariants.{Bracket, CodePage037}

-- AD and BA, and BD and BB, in each other's place
abbrev pub swapped : ℕ → ℕ
swapped code =
    if code == 0xAD then 0xBA else (if code == 0xBA then 0xAD else (if code == 0xBD then 0xBB else (if code == 0xBB then 0xBD else code)))

-- the code in 037 of what a code of a page stands for, and the other way round
abbrev pub of_page : CodePage → ℕ → ℕ
of_page Bracket code = swapped code
of_page CodePage037 code = code

-- the character of a code in 037
abbrev pub character_in_037 : ℕ → Option ℕ
character_in_037 code = if nat_le 0x40 code && nat_le code 0xFE then Some (slice_index CHARACTERS (code - 0x40)) else None

unfoldable pub character_of : CodePage → ℕ → Option ℕ
character_of page code = character_in_037 (of_page page code)

-- where the code of a character stands in the table of codes
abbrev pub place_of : ℕ → Option ℕ
place_of character =
    if nat_le 0x20 character && nat_le character 0x7E then Some (character - 0x20)
    else (if nat_le 0xA0 character && nat_le character 0xFF then Some (character - 0x41) else None)

unfoldable pub code_of : CodePage → ℕ → Option ℕ
code_of page character = option_map (λ place. of_page page (slice_index CODES place)) (place_of character)
