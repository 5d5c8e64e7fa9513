-- The replies to a query (GA23-0059, "Inbound structured fields"), of a terminal without extended features.
use Rattle.std.specs.Prelude.{ℕ, ◌==◌, Bool, true, List, [], ◌∷◌, ◌++◌, if◌then◌else◌}
use Rattle.std.specs.List.{list_any}
use Rattle.byteorder.specs.Endian.{big_bytes}
use Rattle.ds_codec.specs.declared.size.Size.{Size}
use Rattle.ds_codec.specs.Geometry.{Sizes, cells_of}
use Rattle.ds_structured.specs.Fields.{Wanted, each, listed}

-- the columns and then the rows, two bytes each
abbrev pub across_and_down : Size → List ℕ
across_and_down size = big_bytes 2 size.cols ++ big_bytes 2 size.rows

-- Summary, Usable Area, Implicit Partition
abbrev pub reply_codes : List ℕ
reply_codes = 0x80 ∷ 0x81 ∷ 0xA6 ∷ []

-- each reply begins with its length, 81 and its code
abbrev pub summary : List ℕ
summary = 0x00 ∷ 0x07 ∷ 0x81 ∷ 0x80 ∷ reply_codes

-- in millimetres the distance of points, 10 by 741 across and 2 by 111 down, and points in a cell, 9 by 12, as a 3279 tells them
abbrev pub points : List ℕ
points = 0x01 ∷ 0x00 ∷ 0x0A ∷ 0x02 ∷ 0xE5 ∷ 0x00 ∷ 0x02 ∷ 0x00 ∷ 0x6F ∷ 0x09 ∷ 0x0C ∷ []

-- addresses of 12 and 14 bits; cells; the larger size; the points of a cell; how many cells there are
abbrev pub usable_area : Sizes → List ℕ
usable_area sizes =
    0x00 ∷ 0x17 ∷ 0x81 ∷ 0x81 ∷ 0x01 ∷ 0x00 ∷ across_and_down sizes.alternate ++ (points ++ big_bytes 2 (cells_of sizes.alternate))

-- one partition: its default and its alternate size
abbrev pub implicit_partition : Sizes → List ℕ
implicit_partition sizes =
    0x00 ∷ 0x11 ∷ 0x81 ∷ 0xA6 ∷ 0x00 ∷ 0x00 ∷ 0x0B ∷ 0x01 ∷ 0x00 ∷ across_and_down sizes.default ++ across_and_down sizes.alternate

-- none of those that were asked for
abbrev pub null_reply : List ℕ
null_reply = 0x00 ∷ 0x04 ∷ 0x81 ∷ 0xFF ∷ []

abbrev pub is_wanted : Wanted → ℕ → Bool
is_wanted each code = true
is_wanted (listed codes) code = list_any (λ c. c == code) codes

abbrev pub where_wanted : Wanted → ℕ → List ℕ → List ℕ
where_wanted wanted code reply = if is_wanted wanted code then reply else []

-- those of what is wanted, in rising order of their codes
abbrev pub replies : Sizes → Wanted → List ℕ
replies sizes wanted =
    where_wanted wanted 0x80 summary ++ (where_wanted wanted 0x81 (usable_area sizes) ++ where_wanted wanted 0xA6 (implicit_partition sizes))

abbrev pub or_null : List ℕ → List ℕ
or_null [] = null_reply
or_null (byte ∷ bytes) = byte ∷ bytes

-- the attention identifier 88, and the replies
abbrev pub query_reply : Sizes → Wanted → List ℕ
query_reply sizes wanted = 0x88 ∷ or_null (replies sizes wanted)
