-- Where the names of entries stand in a drawing: above their fields or behind them where there is room, else a number does.
use Rattle.std.specs.Prelude.{◌≡◌, ℕ, ◌+◌, ◌-◌, ◌*◌, ◌/◌, ◌%◌, not, ◌&&◌, ◌||◌, ◌==◌, nat_lt, nat_le, Bool, true, false, Option, Some, None, is_some, unwrap_or, List, length, if◌then◌else◌}
use Rattle.std.specs.List.{list_any}
use Rattle.ds_codec.specs.declared.cell.Cell.{Cell}
use Rattle.ds_screen.specs.Ring.{least}
use Rattle.ds_screen.specs.Picture.{Picture}
use Rattle.ds_screen.specs.Fields.{is_open}
use Rattle.scr_layout.specs.Entry.{Declared}
use Rattle.cli_pictures.specs.declared.room.Stand.{Stand}
use Rattle.cli_pictures.specs.declared.room.Stand.TheVariants.{Above, Behind, Numbered}
use Rattle.cli_pictures.specs.Seen.{seen_at}

-- how many cells a name takes: two of its characters stand in one
abbrev pub name_width : Declared → ℕ
name_width entry = (length entry.name + 1) / 2

-- nothing is seen there, and nothing can be typed there
abbrev pub is_bare : List Cell → ℕ → Bool
is_bare cells p = not (is_some (seen_at cells p)) && not (is_open cells p)

-- how many of so many positions from p on are bare, up to the first that isn't
abbrev pub bare_length : List Cell → ℕ → ℕ → ℕ
bare_length cells p most = unwrap_or (least most (λ d. not (is_bare cells (p + d)))) most

-- the position is one of so many from p on
abbrev pub is_among : ℕ → ℕ → ℕ → Bool
is_among p count at = nat_le p at && nat_lt at (p + count)

-- an entry begins at one of so many positions from p on
abbrev pub has_place : List Declared → ℕ → ℕ → Bool
has_place entries p count = list_any (λ entry. is_among p count entry.place) entries

-- the first position behind a field and the attribute that ends it
abbrev pub behind : Declared → ℕ
behind entry = entry.place + entry.length + 1

-- so many positions from p on meet those behind an entry that its name would take
abbrev pub meets : ℕ → ℕ → Declared → Bool
meets p count entry = nat_lt p (behind entry + name_width entry) && nat_lt (behind entry) (p + count)

abbrev pub meets_any : List Declared → ℕ → ℕ → Bool
meets_any entries p count = list_any (meets p count) entries

-- so many cells from p on are in one row of the screen, and bare
abbrev pub is_free : Picture → ℕ → ℕ → Bool
is_free v p count =
    nat_lt p (length v.cells) && (nat_le (p % v.size.cols + count) v.size.cols && (bare_length v.cells p count == count))

-- behind the field and its attribute in the row of its last cell, where no other one begins
abbrev pub has_room_behind : Picture → List Declared → Declared → Bool
has_room_behind v entries entry =
    is_free v (behind entry) (name_width entry)
    && (not (has_place entries (behind entry) (name_width entry)) && nat_lt 1 (behind entry % v.size.cols))

-- above the field's first cells, where no other field begins below, and no name could stand behind another
abbrev pub has_room_above : Picture → List Declared → Declared → Bool
has_room_above v entries entry =
    not (has_place entries (entry.place + 1) (name_width entry - 1))
    && (nat_le v.size.cols entry.place
    && (is_free v (entry.place - v.size.cols) (name_width entry)
    && not (meets_any entries (entry.place - v.size.cols) (name_width entry))))

abbrev pub stand_of : Picture → List Declared → Declared → Stand
stand_of v entries entry =
    if has_room_behind v entries entry then Behind
    else if has_room_above v entries entry then Above
    else Numbered
