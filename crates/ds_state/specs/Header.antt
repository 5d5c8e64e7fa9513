-- For the code's own proofs: no public contract rests on this file.
-- A state's header, read.
use Rattle.std.specs.Prelude.{ℕ, ◌+◌, ◌*◌, ◌==◌, List, [], ◌∷◌, take, Option, Some, None, if◌then◌else◌}
use Rattle.ds_codec.specs.declared.size.Mode.{Mode}
use Rattle.ds_codec.specs.declared.size.Mode.TheVariants.{Bits14, Bits16}
use Rattle.ds_codec.specs.declared.size.Size.{Size}
use Rattle.ds_codec.specs.Aid.{is_aid}
use Rattle.ds_codec.specs.Geometry.{Sizes, geometry_of}
use Rattle.ds_screen.specs.declared.lock.Lock.{Lock}
use Rattle.ds_screen.specs.declared.lock.Lock.TheVariants.{Free, Waiting, Error}
use Rattle.ds_state.specs.declared.header.Parts.{Parts}

abbrev pub mode_at : ℕ → Option Mode
mode_at byte = if byte == 0 then Some Bits14 else (if byte == 1 then Some Bits16 else None)

abbrev pub lock_at : ℕ → Option Lock
lock_at byte = if byte == 0 then Some Free else (if byte == 1 then Some Waiting else (if byte == 2 then Some Error else None))

abbrev pub geometry_in : Size → Size → Option Mode → Option Sizes
geometry_in default alternate None = None
geometry_in default alternate (Some mode) = geometry_of default alternate mode

abbrev pub geometry_at : ℕ → Size → Size → Option Sizes
geometry_at mode default alternate = geometry_in default alternate (mode_at mode)

abbrev pub length_at : ℕ → ℕ → ℕ → ℕ
length_at high middle low = 65536 * high + 256 * middle + low

-- a state's parts, apart from where the record lies
pub record Part : Type 0 where
  pub geometry : Sizes
  pub lock : Lock
  pub aid : ℕ
  pub drawing : List ℕ

abbrev pub part_seen : Option Parts → Option Part
part_seen None = None
part_seen (Some parts) = Some (record { geometry = parts.geometry; lock = parts.lock; aid = parts.aid; drawing = parts.drawing.now })

abbrev pub part_from : Option Sizes → Option Lock → Option ℕ → List ℕ → Option Part
part_from (Some geometry) (Some lock) (Some aid) bytes = Some (record { geometry = geometry; lock = lock; aid = aid; drawing = bytes })
part_from geometry lock aid bytes = None

abbrev pub size : ℕ → ℕ → Size
size rows cols = record { rows = rows; cols = cols }

abbrev pub part_of : List ℕ → Option Part
part_of (version ∷ mode ∷ rows ∷ cols ∷ other_rows ∷ other_cols ∷ lock ∷ aid ∷ high ∷ middle ∷ low ∷ rest) =
    if version == 1
    then part_from (geometry_at mode (size rows cols) (size other_rows other_cols)) (lock_at lock) (if is_aid aid then Some aid else None)
    (take (length_at high middle low) rest)
    else None
part_of bytes = None
