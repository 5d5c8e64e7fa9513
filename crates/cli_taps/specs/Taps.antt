-- A tap: what it hands on, and what it tells of it.
use Rattle.std.specs.Prelude.{ℕ, ◌≡◌, Bool, false, List}
use Rattle.tn_traces.specs.declared.line.Side.TheVariants.{Host, Terminal}
use Rattle.tn_relay.specs.Relayed.{Relayed}
use Rattle.cli_taps.specs.Listening.{Listening, ListenTo, Piece, listening_first, stream_of}

-- the number of its session; what passed; how both sides are followed; all that was told; and whether memory was refused, after which
-- nothing is told
pub record Tapped : Type 0 where
  pub number : ℕ
  pub relayed : Relayed
  pub listening : Listening
  pub told : List ℕ
  pub is_deaf : Bool

-- All that was told is what pieces tell, one after the other, of which all that was read of the two lines is made.
pub record IsTold (number : ℕ) (relayed : Relayed) (listening : Listening) (told : List ℕ) : Type 0 where
  pub pieces : List Piece
  pub host : stream_of Host pieces ≡ relayed.to_terminal.read
  pub terminal : stream_of Terminal pieces ≡ relayed.to_host.read
  pub tells : ListenTo (listening_first number) pieces told listening

abbrev pub TellsAll : Tapped → Type 0
TellsAll tapped = tapped.is_deaf ≡ false → IsTold tapped.number tapped.relayed tapped.listening tapped.told
