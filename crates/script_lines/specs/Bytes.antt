-- Which bytes are blanks, and which make names and arguments.
use Rattle.std.specs.Prelude.{ℕ, ◌==◌, nat_le, Bool, not, ◌&&◌, ◌||◌, List, drop}
use Rattle.std.specs.List.{prefix_len}
use Rattle.script_lines.specs.declared.blanks.Kind.{Kind}
use Rattle.script_lines.specs.declared.blanks.Kind.TheVariants.{Blanks, Name, Argument, Word}

-- space, tab, carriage return, vertical tab, form feed
abbrev pub is_blank : ℕ → Bool
is_blank byte = ((byte == 0x20) || (byte == 0x09)) || ((byte == 0x0D) || ((byte == 0x0B) || (byte == 0x0C)))

abbrev pub after_blanks : List ℕ → List ℕ
after_blanks bytes = drop (prefix_len is_blank bytes) bytes

abbrev pub is_between : ℕ → ℕ → ℕ → Bool
is_between first last byte = nat_le first byte && nat_le byte last

abbrev pub is_letter_or_digit : ℕ → Bool
is_letter_or_digit byte = is_between 0x30 0x39 byte || (is_between 0x41 0x5A byte || is_between 0x61 0x7A byte)

-- what a name goes on with: `_` and `-` too
abbrev pub is_of_name : ℕ → Bool
is_of_name byte = is_letter_or_digit byte || ((byte == 0x5F) || (byte == 0x2D))

-- an argument between parentheses goes on up to a blank, `,` or `)`
abbrev pub is_of_argument : ℕ → Bool
is_of_argument byte = not (is_blank byte || ((byte == 0x2C) || (byte == 0x29)))

-- one without parentheses up to a blank
abbrev pub is_of_word : ℕ → Bool
is_of_word byte = not (is_blank byte)

abbrev pub is_of : Kind → ℕ → Bool
is_of Blanks = is_blank
is_of Name = is_of_name
is_of Argument = is_of_argument
is_of Word = is_of_word
