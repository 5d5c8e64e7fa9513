-- A text with looks, without them.
use Rattle.std.specs.Prelude.{◌≡◌, ℕ, Bool, true, false, not, ◌==◌, List, [], ◌∷◌, if◌then◌else◌}
use Rattle.ds_screen.specs.Picture.{Picture}
use Rattle.ds_screen.specs.Shown.{printed_row}
use Rattle.cli_pictures.specs.Colored.{colored_row}

-- a text without its sequences, each from ESC up to `m`, by whether one has begun before it
abbrev pub unwrapped : Bool → List ℕ → List ℕ
unwrapped begun [] = []
unwrapped true (b ∷ bytes) = unwrapped (not (b == 0x6D)) bytes
unwrapped false (b ∷ bytes) = if b == 0x1B then unwrapped true bytes else b ∷ unwrapped false bytes

-- without its sequences each row is the row that `show` prints
abbrev pub RowsAreShown : Type 0
RowsAreShown = (v : Picture) (row : ℕ) → unwrapped false (colored_row v row) ≡ printed_row v row
