-- A turn of a session: rounds, in each of which both ways pass once.
use Rattle.std.specs.Prelude.{ℕ, ◌≡◌, ◌<◌, Bool, true, false, ◌&&◌, ◌||◌, List, length, if◌then◌else◌}
use Rattle.tn_traces.specs.declared.line.Side.{Side}
use Rattle.tn_traces.specs.declared.line.Side.TheVariants.{Host, Terminal}
use Rattle.tn_relay.specs.declared.line.Gave.{Gave}
use Rattle.tn_relay.specs.declared.line.Gave.TheVariants.{Bytes as GaveBytes, Nothing as GaveNothing, End}
use Rattle.tn_relay.specs.declared.line.Took.{Took}
use Rattle.tn_relay.specs.declared.line.Took.TheVariants.{Bytes as TookBytes, Nothing as TookNothing, Failed}
use Rattle.tn_relay.specs.Relayed.{Relayed, Way, Reads, Writes, TellsEnd}
use Rattle.cli_taps.specs.declared.turn.Passed.{Passed}
use Rattle.cli_taps.specs.declared.turn.Passed.TheVariants.{Something, Nothing, Over}
use Rattle.cli_taps.specs.declared.turn.Turn.{Turn}
use Rattle.cli_taps.specs.declared.turn.Turn.TheVariants.{Waits, HasMore, Ends}

abbrev pub other_of : Side → Side
other_of Host = Terminal
other_of Terminal = Host

-- ---- one way

abbrev pub gave_nothing : Gave → Bool
gave_nothing (GaveBytes count) = false
gave_nothing GaveNothing = true
gave_nothing End = false

abbrev pub took_nothing : Took → Bool
took_nothing (TookBytes count) = false
took_nothing TookNothing = true
took_nothing Failed = false

abbrev pub is_failed : Took → Bool
is_failed (TookBytes count) = false
is_failed TookNothing = false
is_failed Failed = true

-- what became of a way, by its read, its write, and whether its end was told
abbrev pub passed_of : Gave → Took → Bool → Passed
passed_of gave took told =
    if is_failed took || told then Over else (if gave_nothing gave && took_nothing took then Nothing else Something)

-- the end is told where it is due; after a write that failed it isn't looked for
abbrev pub TellsUnless : Bool → Way → Bool → Way → Type 0
TellsUnless true old told new = (told ≡ false) × (new ≡ old)
TellsUnless false old told new = TellsEnd old told new

-- one read of a way, one write of what it holds, and its end: so it passed
pub record Passes (old : Way) (passed : Passed) (new : Way) : Type 0 where
  pub piece : List ℕ
  pub room : 0 < length piece
  pub gave : Gave
  pub read : Way
  pub reads : Reads old piece gave read
  pub took : Took
  pub written : Way
  pub writes : Writes read took written
  pub told : Bool
  pub tells : TellsUnless (is_failed took) written told new
  pub is : passed ≡ passed_of gave took told

-- ---- both ways

-- A session ends once both ways are over, and it waits where neither passed anything more.
abbrev pub turn_of : Passed → Passed → Turn
turn_of Something from_host = HasMore
turn_of Nothing Something = HasMore
turn_of Nothing Nothing = Waits
turn_of Nothing Over = Waits
turn_of Over Something = HasMore
turn_of Over Nothing = Waits
turn_of Over Over = Ends

-- a round that left this, and what it says of the turn: the way from the terminal passed, and then that from the host
pub record EndsRound (turn : Turn) (new : Relayed) : Type 0 where
  pub old : Relayed
  pub from_terminal : Passed
  pub to_host : Passes old.to_host from_terminal new.to_host
  pub from_host : Passed
  pub to_terminal : Passes old.to_terminal from_host new.to_terminal
  pub is : turn ≡ turn_of from_terminal from_host
