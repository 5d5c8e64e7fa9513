-- The path of a file as a relative reference of RFC 3986.
use Rattle.std.specs.Prelude.{ℕ, Bool, true, false, ◌||◌, ◌&&◌, ◌==◌, nat_le, List, [], ◌∷◌, ◌++◌, codes, if◌then◌else◌}
use Rattle.std.specs.List.{flat_map}
use Rattle.percent_encoding.specs.Percent.{percent_encode_byte}

-- a letter or a digit
abbrev pub is_alphanumeric : ℕ → Bool
is_alphanumeric b = (nat_le 0x41 b && nat_le b 0x5A) || (nat_le 0x61 b && nat_le b 0x7A) || (nat_le 0x30 b && nat_le b 0x39)

-- unreserved, or /
abbrev pub is_kept : ℕ → Bool
is_kept b = is_alphanumeric b || (b == 0x2D) || (b == 0x2E) || (b == 0x5F) || (b == 0x7E) || (b == 0x2F)

abbrev pub uri_byte : ℕ → List ℕ
uri_byte b = if is_kept b then b ∷ [] else percent_encode_byte b

-- a colon stands before the first slash: a scheme would be read up to it
abbrev pub has_colon_first : List ℕ → Bool
has_colon_first [] = false
has_colon_first (b ∷ bs) = if b == 0x3A then true else (if b == 0x2F then false else has_colon_first bs)

abbrev pub begins_by_slash : List ℕ → Bool
begins_by_slash [] = false
begins_by_slash (b ∷ bs) = b == 0x2F

-- of several slashes that begin a path the last alone: an authority would be read after two
abbrev pub one_slash : List ℕ → List ℕ
one_slash [] = []
one_slash (b ∷ bs) = if begins_by_slash bs && (b == 0x2F) then one_slash bs else (b ∷ bs)

-- the path, with each byte escaped that is not kept
abbrev pub escaped : List ℕ → List ℕ
escaped path = flat_map uri_byte path

-- a relative reference to the path: its first segment has no colon, and no authority comes before it
abbrev pub uri_of : List ℕ → List ℕ
uri_of path = if has_colon_first path then codes "./" ++ escaped path else escaped (one_slash path)
