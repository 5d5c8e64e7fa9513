-- The sizes that a terminal can have.
use Rattle.std.specs.Prelude.{ℕ, ◌*◌, ◌≤◌, Bool, ◌&&◌, nat_le, Option, Some, None, if◌then◌else◌}
use Rattle.ds_codec.specs.declared.size.Size.{Size}
use Rattle.ds_codec.specs.declared.size.Mode.{Mode}
use Rattle.ds_codec.specs.declared.size.Mode.TheVariants.{Bits14, Bits16}

-- what a geometry is: its two sizes, and how addresses are spelled
pub record Sizes : Type 0 where
  pub default : Size
  pub alternate : Size
  pub mode : Mode

-- the most cells that a mode can address
abbrev pub limit_of : Mode → ℕ
limit_of Bits14 = 16384
limit_of Bits16 = 65025

abbrev pub cells_of : Size → ℕ
cells_of size = size.rows * size.cols

-- 1 to 255 rows, 2 to 255 columns, and no more cells than can be addressed
pub record IsGood (mode : Mode) (size : Size) : Type 0 where
  pub some_rows : 1 ≤ size.rows
  pub few_rows : size.rows ≤ 255
  pub two_cols : 2 ≤ size.cols
  pub few_cols : size.cols ≤ 255
  pub few_cells : cells_of size ≤ limit_of mode

-- the same as a test
abbrev pub is_good : Mode → Size → Bool
is_good mode size =
    (nat_le 1 size.rows && nat_le size.rows 255) && ((nat_le 2 size.cols && nat_le size.cols 255) && nat_le (cells_of size) (limit_of mode))

-- the geometry of these sizes, where there is one
abbrev pub geometry_of : Size → Size → Mode → Option Sizes
geometry_of default alternate mode =
    if is_good mode default && is_good mode alternate then Some (record { default = default; alternate = alternate; mode = mode }) else None
