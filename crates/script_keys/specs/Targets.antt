-- Places that a script names.
use Rattle.std.specs.Prelude.{ℕ, ◌+◌, ◌*◌, ◌-◌, length, min}
use Rattle.ds_screen.specs.Picture.{Picture}
use Rattle.script_keys.specs.declared.number.Number.{Number}
use Rattle.script_keys.specs.declared.number.Number.TheVariants.{Negative, Natural}
use Rattle.script_keys.specs.declared.target.Target.{Target}
use Rattle.script_keys.specs.declared.target.Target.TheVariants.{Cell, Position}

-- 0 where it is below 0
abbrev pub natural : Number → ℕ
natural Negative = 0
natural (Natural value) = value

-- what is counted from 1, counted from 0
abbrev pub counted : Number → ℕ
counted number = natural number - 1

-- a number, or the last one below a count
abbrev pub last_below : ℕ → ℕ → ℕ
last_below count number = min number (count - 1)

-- the nearest row and column, or position, that the screen has
abbrev pub place_of : Picture → Target → ℕ
place_of v (Cell row column) = last_below v.size.rows row * v.size.cols + last_below v.size.cols column
place_of v (Position position) = last_below (length v.cells) position
