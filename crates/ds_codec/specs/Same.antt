-- Whether two sizes, two modes, or the sizes of two terminals are the same.
use Rattle.std.specs.Prelude.{Bool, true, false, ◌&&◌, ◌==◌}
use Rattle.ds_codec.specs.declared.size.Size.{Size}
use Rattle.ds_codec.specs.declared.size.Mode.{Mode}
use Rattle.ds_codec.specs.declared.size.Mode.TheVariants.{Bits14, Bits16}
use Rattle.ds_codec.specs.Geometry.{Sizes}

abbrev pub same_size : Size → Size → Bool
same_size one other = (one.rows == other.rows) && (one.cols == other.cols)

-- addresses of as many bits
abbrev pub same_mode : Mode → Mode → Bool
same_mode Bits14 Bits14 = true
same_mode Bits14 Bits16 = false
same_mode Bits16 Bits14 = false
same_mode Bits16 Bits16 = true

abbrev pub same_sizes : Sizes → Sizes → Bool
same_sizes one other = same_size one.default other.default && (same_size one.alternate other.alternate && same_mode one.mode other.mode)
