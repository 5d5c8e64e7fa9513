-- Text in XML 1.0, between tags or in an attribute in double quotes.
use Rattle.std.specs.Prelude.{ℕ, ◌==◌, ◌||◌, nat_lt, codes, List, chars, encode_utf8, if◌then◌else◌}
use Rattle.std.specs.List.{flat_map}

-- what would be markup is an entity, and what XML has no character for a question mark
abbrev pub escaped_char : ℕ → List ℕ
escaped_char c =
    if c == 38 then codes "&amp;"
    else if c == 60 then codes "&lt;"
    else if c == 62 then codes "&gt;"
    else if c == 34 then codes "&quot;"
    else if nat_lt c 32 || c == 65534 || c == 65535 then codes "?"
    else encode_utf8 c

abbrev pub escaped : List ℕ → List ℕ
escaped text = flat_map escaped_char (chars text)
