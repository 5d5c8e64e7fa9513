-- The line of sizes before the first record.
use Rattle.std.specs.Prelude.{ℕ, Bool, false, not, List, [], ◌++◌, codes, Option, Some, None}
use Rattle.std.specs.Fmt.{decimal}
use Rattle.ds_codec.specs.declared.size.Size.{Size}
use Rattle.ds_codec.specs.Same.{same_size}
use Rattle.cli_buffers.specs.declared.sizes.SizesLine.{SizesLine}
use Rattle.cli_buffers.specs.declared.sizes.SizesLine.TheVariants.{Told, Omitted}

-- another size stands in the line
abbrev pub is_other : SizesLine → Option Size → Size → Bool
is_other Told (Some first) size = not (same_size first size)
is_other Told None size = false
is_other Omitted first size = false

abbrev pub first_size : Option Size → Size → Size
first_size (Some first) size = first
first_size None size = size

-- 24 rows of 80 columns, and the size of the screen
abbrev pub size_line : Size → List ℕ
size_line size = codes "size 24x80 " ++ (decimal size.rows ++ (codes "x" ++ (decimal size.cols ++ codes "\n")))

-- before the first record, where it is asked for
abbrev pub sizes_text : SizesLine → Option Size → Size → List ℕ
sizes_text Told None size = size_line size
sizes_text Told (Some first) size = []
sizes_text Omitted first size = []
