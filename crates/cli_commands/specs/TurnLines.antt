-- The lines of a dialogue's text, of which one stands between two turns.
use Rattle.std.specs.Prelude.{ℕ, ◌-◌, Bool, List, codes, if◌then◌else◌}
use Rattle.std.specs.Str.{bytes_eq}

-- a line that stands between two turns
abbrev pub is_turn : List ℕ → Bool
is_turn line = bytes_eq line (codes "turn")

-- how many turns are left of a number after a line, none where none were
abbrev pub left_after : ℕ → List ℕ → ℕ
left_after left line = if is_turn line then left - 1 else left
