-- The 95 characters and their codes.
use Rattle.std.specs.Prelude.{ℕ, ◌-◌, Bool, not, ◌&&◌, ◌||◌, ◌==◌, nat_le, slice_index, Option, Some, None, is_some, if◌then◌else◌}
use Rattle.ds_screen.specs.Shown.{printed_code}
use Rattle.cli_characters.specs.declared.table.TheConstants.{CODES}

-- the EBCDIC code of a character from the space to the tilde
unfoldable pub code_of : ℕ → Option ℕ
code_of character = if nat_le 32 character && nat_le character 126 then Some (slice_index CODES (character - 32)) else None

-- the character of a code that has one of its own: '?' is printed for others too
unfoldable pub character_of : ℕ → Option ℕ
character_of code = if not (printed_code code == 63) || (code == 0x6F) then Some (printed_code code) else None

abbrev pub is_covered : ℕ → Bool
is_covered code = is_some (character_of code)
