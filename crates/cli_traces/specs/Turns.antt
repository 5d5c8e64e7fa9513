-- The turns of a dialogue: an operator answers a screen by an attention key, and what the host sends next begins the next turn.
use Rattle.std.specs.Prelude.{ℕ, ◌+◌, ◌==◌, nat_le, min, Bool, true, false, ◌||◌, not, if◌then◌else◌, List, [], codes}
use Rattle.tn_session.specs.Kept.{begins_with, is_read_code}
use Rattle.tn_traces.specs.declared.line.Side.{Side}
use Rattle.tn_traces.specs.declared.line.Side.TheVariants.{Host, Terminal}
use Rattle.cli_traces.specs.declared.turn.Stage.{Stage}
use Rattle.cli_traces.specs.declared.turn.Stage.TheVariants.{Blank, Shown, Reads, Answered}
use Rattle.cli_traces.specs.declared.turn.Turns.{Turns}
use Rattle.cli_traces.specs.declared.turn.Turns.TheVariants.{Unmarked, Marked, UpTo}

-- An attention identifier tells of a key or a pen, but no AID (60, E8), the answer to a partition's read (61) and structured
-- fields (88) (GA23-0059, "Attention identification").
abbrev pub is_attention : ℕ → Bool
is_attention aid = not (aid == 0x60 || (aid == 0xE8 || (aid == 0x61 || aid == 0x88)))

-- A record of the host shows a screen, or reads one; the terminal answers a read by itself, and a screen by a key.
abbrev pub stage_after : Side → Stage → List ℕ → Stage
stage_after Host stage body = if begins_with is_read_code body then Reads else Shown
stage_after Terminal Shown body = if begins_with is_attention body then Answered else Shown
stage_after Terminal Reads body = Shown
stage_after Terminal Blank body = Blank
stage_after Terminal Answered body = Answered

-- a turn begins with the host's first record after an answer
abbrev pub begins : Side → Stage → Bool
begins Host Answered = true
begins Host Blank = false
begins Host Shown = false
begins Host Reads = false
begins Terminal stage = false

-- turns are counted from 0, up to 2^64 - 1
abbrev pub turn_after : Side → Stage → ℕ → ℕ
turn_after side stage turn = if begins side stage then min (turn + 1) 18446744073709551615 else turn

-- ---- what is printed of them

-- A screen is made of all records up to its turn; an answer stands alone.
abbrev pub is_within : Side → Turns → ℕ → Bool
is_within side Unmarked turn = true
is_within side Marked turn = true
is_within Host (UpTo last) turn = nat_le turn last
is_within Terminal (UpTo last) turn = turn == last

abbrev pub is_marked : Turns → Bool
is_marked Unmarked = false
is_marked Marked = true
is_marked (UpTo last) = false

-- the line that begins a turn
abbrev pub turn_text : Turns → Bool → List ℕ
turn_text turns begun = if is_marked turns then (if begun then codes "turn\n" else []) else []
