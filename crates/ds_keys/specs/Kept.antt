-- For the code's own proofs: only functions within the crate cite this file, so no public contract rests on it.
-- What the loops of the keys leave as they go on.
use Rattle.std.specs.Prelude.{◌≡◌, ℕ, ◌+◌, ◌-◌, ◌<◌, ◌≤◌, false, ◌==◌, nat_lt, List, length, Option, Some, None, if◌then◌else◌}
use Rattle.ds_codec.specs.declared.cell.Cell.{Cell}
use Rattle.ds_screen.specs.Ring.{ring_on, ring_back, ring_distance}
use Rattle.ds_screen.specs.Picture.{Picture, blank, cell_at}
use Rattle.ds_screen.specs.Fields.{is_attribute, first_open}
use Rattle.ds_keys.specs.declared.key.Key.{Key}
use Rattle.ds_keys.specs.declared.key.Key.TheVariants.{Left, Right, Up, Down, Tab, BackTab, NewLine, Home}
use Rattle.ds_keys.specs.Moves.{start_ahead, start_back, next_row}

-- so many positions from b on, round the ring, hold what the rule says, the others what they held
abbrev pub so_far : List Cell → ℕ → ℕ → (ℕ → Cell) → ℕ → Cell
so_far cells b k rule p = if nat_lt (ring_distance (length cells) b p) k then rule p else cell_at cells p

-- the positions from p up to the next attribute, or to the last position where there is none
abbrev pub steps_to : ℕ → ℕ → Option ℕ → ℕ
steps_to n p None = n - p
steps_to n p (Some stop) = ring_distance n p stop

-- what a position of a run holds once the run moved one place back
abbrev pub moved_back : List Cell → ℕ → ℕ → Cell
moved_back cells end p = if p + 1 == end then blank else cell_at cells (p + 1)

-- no attribute stands from one position up to another
abbrev pub AreCharacters : List Cell → ℕ → ℕ → Type 0
AreCharacters cells from end = (p : ℕ) → from ≤ p → p < end → is_attribute (cell_at cells p) ≡ false

-- no attribute stands at so many positions from one back, round the ring
abbrev pub AreBack : List Cell → ℕ → ℕ → Type 0
AreBack cells at steps = (d : ℕ) → d < steps → is_attribute (cell_at cells (ring_back (length cells) at d)) ≡ false

-- the place to which a cursor key moves the cursor; for another key where it stands
abbrev pub place_after : Picture → Key → ℕ
place_after v Left = ring_back (length v.cells) v.cursor 1
place_after v Right = ring_on (length v.cells) v.cursor 1
place_after v Up = ring_back (length v.cells) v.cursor v.size.cols
place_after v Down = ring_on (length v.cells) v.cursor v.size.cols
place_after v Tab = start_ahead v.cells v.cursor
place_after v BackTab = start_back v.cells v.cursor
place_after v NewLine = first_open v.cells (next_row (length v.cells) v.size.cols v.cursor)
place_after v Home = first_open v.cells 0
place_after v key = v.cursor
