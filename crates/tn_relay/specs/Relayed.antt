-- What passed through a relay.
use Rattle.std.specs.Prelude.{◌≡◌, ◌≢◌, ◌<◌, ◌≤◌, ◌-◌, ℕ, Bool, true, false, List, [], ◌∷◌, ◌++◌, length, take, drop}
use Rattle.tn_traces.specs.declared.line.Side.{Side}
use Rattle.tn_traces.specs.declared.line.Side.TheVariants.{Host, Terminal}
use Rattle.tn_relay.specs.declared.line.Gave.{Gave}
use Rattle.tn_relay.specs.declared.line.Gave.TheVariants.{Bytes as GaveBytes, Nothing as GaveNothing, End}
use Rattle.tn_relay.specs.declared.line.Took.{Took}
use Rattle.tn_relay.specs.declared.line.Took.TheVariants.{Bytes as TookBytes, Nothing as TookNothing, Failed}

-- ---- one way

-- One way through a relay: all that was read of the one line, all that was written to the other, and what is held between; for how
-- many bytes more there is room; whether the one line ended, and whether the other was told so; what each read of the one line came
-- to, and each write to the other.
pub record Way : Type 0 where
  pub read : List ℕ
  pub written : List ℕ
  pub bytes : List ℕ
  pub room : ℕ
  pub is_ended : Bool
  pub told_end : Bool
  pub gave : List Gave
  pub took : List Took

abbrev pub untrodden : Way
untrodden = record { read = []; written = []; bytes = []; room = 16384; is_ended = false; told_end = false; gave = []; took = [] }

-- What was written is a front of what was read, and what is held is the rest of it. An end is told once it came, and then nothing is
-- held: all that was read was written. Where nothing is held there is all the room.
pub record IsFaithful (way : Way) : Type 0 where
  pub whole : way.read ≡ way.written ++ way.bytes
  pub ended : way.told_end ≡ true → way.is_ended ≡ true
  pub all : way.told_end ≡ true → way.bytes ≡ []
  pub roomy : way.bytes ≡ [] → way.room ≡ 16384

-- ---- both ways

pub record Relayed : Type 0 where
  pub to_host : Way
  pub to_terminal : Way

abbrev pub nothing_passed : Relayed
nothing_passed = record { to_host = untrodden; to_terminal = untrodden }

abbrev pub AreFaithful : Relayed → Type 0
AreFaithful relayed = IsFaithful relayed.to_host × IsFaithful relayed.to_terminal

-- the way of what a side sent
abbrev pub way_from : Side → Relayed → Way
way_from Host relayed = relayed.to_terminal
way_from Terminal relayed = relayed.to_host

-- the way of what goes to a side
abbrev pub way_to : Side → Relayed → Way
way_to Host relayed = relayed.to_host
way_to Terminal relayed = relayed.to_terminal

-- ---- what a call does

-- The one line was asked, and this is what it answered, unless its end came before, or there was no room.
abbrev pub IsAsked : Way → List ℕ → Gave → Way → Type 0
IsAsked old piece gave new = 0 < old.room → 0 < length piece → old.is_ended ≡ false → new.gave ≡ old.gave ++ gave ∷ []

-- a read of the one line gave these bytes at the front of a piece, or none, or its end
abbrev pub Gains : Way → List ℕ → Gave → Way → Type 0
Gains old piece (GaveBytes count) new =
    (0 < count) × (count ≤ length piece) × (old.is_ended ≡ false)
    × (new ≡ record old { read = old.read ++ take count piece; bytes = old.bytes ++ take count piece; room = old.room - count; gave = new.gave })
Gains old piece GaveNothing new = new ≡ record old { gave = new.gave }
Gains old piece End new = new ≡ record old { is_ended = true; gave = new.gave }

abbrev pub Reads : Way → List ℕ → Gave → Way → Type 0
Reads old piece gave new = Gains old piece gave new × IsAsked old piece gave new

-- The other line was asked, and this is what it answered, unless nothing is held.
abbrev pub IsOffered : Way → Took → Way → Type 0
IsOffered old took new = 0 < length old.bytes → new.took ≡ old.took ++ took ∷ []

-- A write to the other took a front of what was held, or none. Where nothing is held any more there is all the room.
abbrev pub Gives : Way → Took → Way → Type 0
Gives old (TookBytes count) new =
    (0 < count) × (count ≤ length old.bytes)
    × (new ≡ record old { written = old.written ++ take count old.bytes; bytes = drop count old.bytes; room = new.room; took = new.took })
    × (new.bytes ≡ [] → new.room ≡ 16384)
Gives old TookNothing new = new ≡ record old { took = new.took }
Gives old Failed new = new ≡ record old { took = new.took }

abbrev pub Writes : Way → Took → Way → Type 0
Writes old took new = Gives old took new × IsOffered old took new

-- the other was told the end, exactly where it came and nothing is held
abbrev pub TellsEnd : Way → Bool → Way → Type 0
TellsEnd old true new = (old.is_ended ≡ true) × (old.bytes ≡ []) × (new ≡ record old { told_end = true })
TellsEnd old false new = (new ≡ old) × (old.is_ended ≡ true → old.bytes ≢ [])

-- ---- for the code's own proofs

-- what a pipe holds, how many bytes more it has room for, and whether all was read
pub record Held : Type 0 where
  pub bytes : List ℕ
  pub room : ℕ
  pub is_ended : Bool

-- the way from a line's bytes through a pipe to those that another line took
abbrev pub way_of : List ℕ → Held → List ℕ → Bool → List Gave → List Took → Way
way_of read held written told gave took = record {
  read = read;
  written = written;
  bytes = held.bytes;
  room = held.room;
  is_ended = held.is_ended;
  told_end = told;
  gave = gave;
  took = took;
}
