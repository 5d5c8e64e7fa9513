-- A size as a text: rows, an `x`, columns.
use Rattle.std.specs.Prelude.{ℕ, ◌^◌, Bool, ◌&&◌, ◌==◌, nat_le, nat_lt, if◌then◌else◌, decimal, List, ◌∷◌, ◌++◌, slice_index, Option, Some, None, option_and_then}
use Rattle.std.specs.List.{before_first, after_first, list_any}
use Rattle.std.specs.Str.{all_ascii_digits}
use Rattle.std.specs.Str.Parse.{digits_value}
use Rattle.ds_codec.specs.Geometry.{is_good}
use Rattle.ds_codec.specs.declared.size.Size.{Size}
use Rattle.ds_codec.specs.declared.size.Mode.{Mode}

infixl 10 ◌>>=◌
abbrev ◌>>=◌ : {A B : Type 0} → Option A → (A → Option B) → Option B
o >>= f = option_and_then f o

-- the number that decimal digits spell, the first of them 1 to 9; it is below 2 ^ 16
unfoldable pub number_of : List ℕ → Option ℕ
number_of digits =
    if nat_le 49 (slice_index digits 0) && all_ascii_digits digits && nat_lt (digits_value 10 digits) (2 ^ 16)
    then Some (digits_value 10 digits) else None

abbrev pub is_x : ℕ → Bool
is_x c = c == 120

-- `RxC`, within the limits of a terminal
unfoldable pub size_of_text : Mode → List ℕ → Option Size
size_of_text mode text =
    if list_any is_x text then (do
      rows ← number_of (before_first is_x text)
      cols ← number_of (after_first is_x text)
      if is_good mode (record { rows = rows; cols = cols }) then Some (record { rows = rows; cols = cols }) else None)
    else None

-- how a size is spelled
abbrev pub size_text : Size → List ℕ
size_text size = decimal size.rows ++ 120 ∷ decimal size.cols
