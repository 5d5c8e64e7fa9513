-- What each key does: every cell, the cursor, the lock, the attention identifier, and the answer.
use Rattle.std.specs.Prelude.{◌≡◌, ℕ, ◌+◌, ◌-◌, Bool, true, false, not, ◌&&◌, ◌||◌, ◌==◌, nat_lt, nat_le, List, length, Option, Some, None, unwrap_or, if◌then◌else◌}
use Rattle.ds_codec.specs.declared.cell.Cell.{Cell}
use Rattle.ds_codec.specs.declared.cell.Cell.TheVariants.{Field, Char}
use Rattle.ds_codec.specs.Aid.{is_long_aid, is_short_aid}
use Rattle.ds_codec.specs.Attribute.{with_modified}
use Rattle.ds_codec.specs.Character.{glyph, is_graphic}
use Rattle.ds_screen.specs.declared.lock.Lock.{Lock}
use Rattle.ds_screen.specs.declared.lock.Lock.TheVariants.{Free, Waiting, Error}
use Rattle.ds_screen.specs.Ring.{ring_on, ring_back, ring_distance, least}
use Rattle.ds_screen.specs.Picture.{Picture, blank, cell_at, ruled}
use Rattle.ds_screen.specs.Fields.{is_attribute, is_at, is_open, first_open, attribute_before, governs}
use Rattle.ds_screen.specs.Records.{erased, cleared}
use Rattle.ds_keys.specs.declared.key.Key.{Key}
use Rattle.ds_keys.specs.declared.key.Key.TheVariants.{Typed, Left, Right, Up, Down, Tab, BackTab, NewLine, Home, EraseEof, EraseInput, Delete, Reset, Attention}
use Rattle.ds_keys.specs.declared.pressed.Pressed.{Pressed}
use Rattle.ds_keys.specs.declared.pressed.Pressed.TheVariants.{Done, Inhibited, Ignored, Sent}
use Rattle.ds_keys.specs.Moves.{start_ahead, start_back, settled, row_end, next_row}

-- ---- cells
abbrev pub modified : Cell → Cell
modified (Field bits) = Field (with_modified bits true)
modified (Char character) = Char character

-- the attribute that governs the cursor's character becomes modified, every other cell stays
abbrev pub marked_cell : List Cell → ℕ → ℕ → Cell
marked_cell cells c p = if is_at (attribute_before cells c) p then modified (cell_at cells p) else cell_at cells p

-- Typed: the cursor's cell holds the code
unfoldable pub typed_cell : List Cell → ℕ → ℕ → ℕ → Cell
typed_cell cells c code p = if p == c then Char (glyph code false) else marked_cell cells c p

-- a position of the rest of the cursor's field: what its attribute governs from the cursor on, round the ring; in a
-- buffer without attributes the positions from the cursor to the last one
abbrev pub is_in_rest : List Cell → ℕ → Option ℕ → ℕ → Bool
is_in_rest cells c None p = nat_le c p
is_in_rest cells c (Some q) p = governs cells q p && nat_le (ring_distance (length cells) q c) (ring_distance (length cells) q p)

-- Erase EOF: the rest of the field becomes nulls
unfoldable pub end_erased_cell : List Cell → ℕ → ℕ → Cell
end_erased_cell cells c p = if is_in_rest cells c (attribute_before cells c) p then blank else marked_cell cells c p

-- the run that Delete moves ends before the first attribute behind the cursor in its row, else with the row; that it
-- ends there, so that the field's other rows stay, is our own rule
unfoldable pub run_end : List Cell → ℕ → ℕ → ℕ
run_end cells cols c = c + unwrap_or (least (row_end cols c - c) (λ d. is_attribute (cell_at cells (c + d)))) (row_end cols c - c)

-- Delete: from the cursor up to the end of the run each position holds what the next one held, the last one a null
unfoldable pub deleted_cell : List Cell → ℕ → ℕ → ℕ → Cell
deleted_cell cells end c p =
    if nat_le c p && nat_lt p end then (if p + 1 == end then blank else cell_at cells (p + 1)) else marked_cell cells c p

-- ---- keys
-- what a key makes of a picture, and its answer
pub record Step : Type 0 where
  pub after : Picture
  pub pressed : Pressed

abbrev pub step : Picture → Pressed → Step
step after pressed = record { after = after; pressed = pressed }

abbrev pub ignored : Picture → Step
ignored v = step v Ignored

abbrev pub inhibited : Picture → Step
inhibited v = step (record v { lock = Error }) Inhibited

abbrev pub moved : Picture → ℕ → Step
moved v p = step (record v { cursor = p }) Done

-- cells by a rule, and the cursor put to a position
abbrev pub edited : Picture → (ℕ → Cell) → ℕ → Step
edited v rule cursor = step (record v { cells = ruled (length v.cells) rule; cursor = cursor }) Done

-- a change of the field that the cursor stands in wants an open character there
abbrev pub if_open : Picture → Step → Step
if_open v change = if is_open v.cells v.cursor then change else inhibited v

-- codes other than 40 to FE are not typed, which is our own rule
unfoldable pub typed_step : Picture → ℕ → Step
typed_step v code =
    if is_graphic code
    then if_open v (edited v (typed_cell v.cells v.cursor code) (settled v.cells (ring_on (length v.cells) v.cursor 1)))
    else ignored v

unfoldable pub erase_eof_step : Picture → Step
erase_eof_step v = if_open v (edited v (end_erased_cell v.cells v.cursor) v.cursor)

unfoldable pub delete_step : Picture → Step
delete_step v = if_open v (edited v (deleted_cell v.cells (run_end v.cells v.size.cols v.cursor) v.cursor) v.cursor)

-- that the cursor goes to the least open position, and not to the first of a field, is our own rule where a field runs
-- round the end; so it is of Home
abbrev pub erase_input_step : Picture → Step
erase_input_step v = step (cleared v) Done

abbrev pub sent : Picture → ℕ → Step
sent v aid = step (record v { lock = Waiting; aid = aid }) (Sent aid)

-- the attention identifiers of Enter, PF1 to PF24, PA1 to PA3 and Clear; that 60, which stands for no key, is ignored is
-- our own rule
abbrev pub is_sending : ℕ → Bool
is_sending aid = is_long_aid aid || is_short_aid aid

-- a key that sends; Clear, 6D, erases first
unfoldable pub attention_step : Picture → ℕ → Step
attention_step v aid =
    if not (is_sending aid) then ignored v else (if aid == 0x6D then sent (erased v.geometry.default v) aid else sent v aid)

-- a key on a free keyboard
unfoldable pub free_step : Picture → Key → Step
free_step v (Typed code) = typed_step v code
free_step v Left = moved v (ring_back (length v.cells) v.cursor 1)
free_step v Right = moved v (ring_on (length v.cells) v.cursor 1)
free_step v Up = moved v (ring_back (length v.cells) v.cursor v.size.cols)
free_step v Down = moved v (ring_on (length v.cells) v.cursor v.size.cols)
free_step v Tab = moved v (start_ahead v.cells v.cursor)
free_step v BackTab = moved v (start_back v.cells v.cursor)
free_step v NewLine = moved v (first_open v.cells (next_row (length v.cells) v.size.cols v.cursor))
free_step v Home = moved v (first_open v.cells 0)
free_step v EraseEof = erase_eof_step v
free_step v EraseInput = erase_input_step v
free_step v Delete = delete_step v
free_step v Reset = step v Done
free_step v (Attention aid) = attention_step v aid

-- After an error Reset alone acts, and a keyboard that waits ignores every key. These rules of the lock, and that a key
-- that cannot act where the cursor stands sets the error, are our own.
abbrev pub error_step : Picture → Key → Step
error_step v Reset = step (record v { lock = Free }) Done
error_step v key = ignored v

abbrev pub step_under : Lock → Picture → Key → Step
step_under Free v key = free_step v key
step_under Waiting v key = ignored v
step_under Error v key = error_step v key

-- the one picture and the one answer of a key
unfoldable pub step_of : Picture → Key → Step
step_of v key = step_under v.lock v key

-- the key leads from one picture to another, with this answer
abbrev pub KeyStep : Picture → Key → Picture → Pressed → Type 0
KeyStep before key after pressed = step after pressed ≡ step_of before key
