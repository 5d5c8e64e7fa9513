-- The line that tells the sizes of the terminal.
use Rattle.std.specs.Prelude.{ℕ, Bool, ◌==◌, List, drop, codes, Option, Some, None, nat_eq, bytes_eq, if◌then◌else◌}
use Rattle.std.specs.List.{starts_with, list_any, before_first, after_first}
use Rattle.ds_codec.specs.declared.size.Size.{Size}
use Rattle.ds_codec.specs.declared.size.Mode.{Mode}
use Rattle.ds_codec.specs.declared.size.Mode.TheVariants.{Bits14, Bits16}
use Rattle.ds_codec.specs.Geometry.{Sizes, geometry_of}
use Rattle.scr_layout.specs.SizeText.{size_of_text}
use Rattle.cli_commands.specs.declared.input.sizes.SizeLine.{SizeLine}
use Rattle.cli_commands.specs.declared.input.sizes.SizeLine.TheVariants.{Allowed, Refused}

-- 24 rows of 80 columns, both sizes
abbrev pub usual_sizes : Sizes
usual_sizes = record { default = record { rows = 24; cols = 80 }; alternate = record { rows = 24; cols = 80 }; mode = Bits14 }

abbrev pub is_space : ℕ → Bool
is_space c = c == 0x20

abbrev pub geometry_from : Mode → Option Size → Option Size → Option Sizes
geometry_from mode (Some default) (Some alternate) = geometry_of default alternate mode
geometry_from mode default alternate = None

-- the default and the alternate size, as two words
abbrev pub geometry_by : Mode → List ℕ → List ℕ → Option Sizes
geometry_by mode default alternate = geometry_from mode (size_of_text mode default) (size_of_text mode alternate)

abbrev pub is_sixteen : List ℕ → Bool
is_sixteen words = bytes_eq words (codes "16")

-- the default size, and what follows it: `16`, or the alternate size, which `16` may follow
abbrev pub geometry_after : List ℕ → List ℕ → Option Sizes
geometry_after default rest =
    if is_sixteen rest then geometry_by Bits16 default default
    else if list_any is_space rest
    then (if is_sixteen (after_first is_space rest) then geometry_by Bits16 default (before_first is_space rest) else None)
    else geometry_by Bits14 default rest

-- one size, or the default and the alternate size, with one space between two words; addresses have 16 bits where the last
-- word is `16`
abbrev pub geometry_in : List ℕ → Option Sizes
geometry_in words =
    if list_any is_space words then geometry_after (before_first is_space words) (after_first is_space words)
    else geometry_by Bits14 words words

-- the word `size`, a space, and sizes that a terminal can have
abbrev pub geometry_told : List ℕ → Option Sizes
geometry_told line = if starts_with nat_eq line (codes "size ") then geometry_in (drop 5 line) else None

-- the same where such a line may come
abbrev pub sizes_told : SizeLine → List ℕ → Option Sizes
sizes_told Allowed line = geometry_told line
sizes_told Refused line = None
