-- Where the keys of a layout stand, in text that people write.
use Rattle.std.specs.Prelude.{ℕ, ◌+◌, ◌-◌, ◌==◌, ◌&&◌, ◌||◌, not, nat_lt, Bool, false, List, [], ◌∷◌, codes, drop, length, position, take, Option, Some, None, if◌then◌else◌}
use Rattle.std.specs.Char.{is_ascii_alphanumeric}
use Rattle.std.specs.Str.{bytes_eq}
use Rattle.scr_layout.specs.Fault.{key_text}
use Rattle.cli_reasons.specs.declared.layout_line.Wanted.{Wanted}
use Rattle.cli_reasons.specs.declared.layout_line.Wanted.TheVariants.{Key, UnknownTop, UnknownField}

abbrev pub is_blank : ℕ → Bool
is_blank byte = byte == 0x20 || byte == 0x09

-- what may stand in a bare key
abbrev pub is_bare : ℕ → Bool
is_bare byte = is_ascii_alphanumeric byte || byte == 0x2D || byte == 0x5F

abbrev pub after_blanks : List ℕ → List ℕ
after_blanks [] = []
after_blanks (b ∷ bs) = if is_blank b then after_blanks bs else b ∷ bs

abbrev pub first_not_bare : List ℕ → Option ℕ
first_not_bare text = position (λ b. not (is_bare b)) text

abbrev pub place_or : Option ℕ → ℕ → ℕ
place_or (Some place) other = place
place_or None other = other

abbrev pub bare_len : List ℕ → ℕ
bare_len text = place_or (first_not_bare text) (length text)

abbrev pub begins_with : ℕ → List ℕ → Bool
begins_with byte [] = false
begins_with byte (b ∷ bs) = b == byte

-- blanks, and `=`
abbrev pub is_value : List ℕ → Bool
is_value text = begins_with 0x3D (after_blanks text)

abbrev pub key_before : List ℕ → ℕ → Option (List ℕ)
key_before text count = if nat_lt 0 count && is_value (drop count text) then Some (take count text) else None

abbrev pub key_in : List ℕ → Option (List ℕ)
key_in text = key_before text (bare_len text)

-- the bare key of a line that gives one a value
abbrev pub key_of : List ℕ → Option (List ℕ)
key_of line = key_in (after_blanks line)

-- a line that begins a table
abbrev pub is_header : List ℕ → Bool
is_header line = begins_with 0x5B (after_blanks line)

abbrev pub is_top_word : List ℕ → Bool
is_top_word word =
    bytes_eq word (codes "version") || bytes_eq word (codes "addresses") || bytes_eq word (codes "default")
    || bytes_eq word (codes "alternate") || bytes_eq word (codes "screen") || bytes_eq word (codes "field")

abbrev pub is_field_word : List ℕ → Bool
is_field_word word =
    bytes_eq word (codes "name") || bytes_eq word (codes "row") || bytes_eq word (codes "col") || bytes_eq word (codes "length")
    || bytes_eq word (codes "kind") || bytes_eq word (codes "count") || bytes_eq word (codes "down")

abbrev pub is_wanted_key : Wanted → List ℕ → Bool
is_wanted_key (Key key) word = bytes_eq word (key_text key)
is_wanted_key UnknownTop word = not (is_top_word word)
is_wanted_key UnknownField word = not (is_field_word word)

abbrev pub is_wanted_or_none : Wanted → Option (List ℕ) → Bool
is_wanted_or_none wanted None = false
is_wanted_or_none wanted (Some word) = is_wanted_key wanted word

abbrev pub is_wanted : Wanted → List ℕ → Bool
is_wanted wanted line = is_wanted_or_none wanted (key_of line)

-- the first line with such a key in the table that comes after so many, with its number; the first line has this one
abbrev pub line_where : Wanted → ℕ → ℕ → List (List ℕ) → Option (ℕ × List ℕ)
line_where wanted number tables [] = None
line_where wanted number tables (line ∷ lines) =
    if is_header line then (if tables == 0 then None else line_where wanted (number + 1) (tables - 1) lines)
    else if tables == 0 && is_wanted wanted line then Some (number, line)
    else line_where wanted (number + 1) tables lines

-- the line with which a table begins that comes after so many others
abbrev pub table_line : ℕ → ℕ → List (List ℕ) → Option ℕ
table_line number tables [] = None
table_line number tables (line ∷ lines) =
    if is_header line then (if tables == 0 then Some number else table_line (number + 1) (tables - 1) lines)
    else table_line (number + 1) tables lines
