-- A line, all that passed over it, and what one read or write of it does.
use Rattle.std.specs.Prelude.{ℕ, ◌≡◌, ◌+◌, ◌<◌, ◌≤◌, ◌⊎◌, List, [], ◌∷◌, ◌++◌, length, take, Option, Some, None}
use Rattle.std.specs.Io.KnownBytes.{Keeps, Appends, Consumes, IsAtEnd}
use Rattle.tn_session.specs.declared.stop.Stop.{Stop}
use Rattle.tn_session.specs.declared.stop.Stop.TheVariants.{Ended, ReadFailed, WriteFailed}

-- a line that is handed over: where it tells its bytes, those that it has left to read and those that it holds as written
pub record FreshLine : Type 0 where
  pub left : Option (List ℕ)
  pub held : Option (List ℕ)

-- a line by what it has left to read and what it holds
abbrev pub fresh : Option (List ℕ) → Option (List ℕ) → FreshLine
fresh left held = record { left = left; held = held }

-- the first of the lines that a wire was made of; it is made of one
abbrev pub first_line : List FreshLine → FreshLine
first_line [] = fresh None None
first_line (line ∷ lines) = line

-- the line as it was handed over; all that was received and sent; how many reads there were, and for how many bytes each had
-- room; how many flushes; why the line stopped; where the line tells its bytes, those that it has left to read and those that
-- it holds as written
pub record WireState : Type 0 where
  pub line : FreshLine
  pub received : List ℕ
  pub sent : List ℕ
  pub reads : ℕ
  pub rooms : List ℕ
  pub flushes : ℕ
  pub stop : Option Stop
  pub left : Option (List ℕ)
  pub held : Option (List ℕ)

-- a wire over this line, over which nothing has passed
abbrev pub begun : FreshLine → WireState
begun line = record {
  line = line;
  received = [];
  sent = [];
  reads = 0;
  rooms = [];
  flushes = 0;
  stop = None;
  left = line.left;
  held = line.held;
}

-- one read, with the bytes that its buffer holds afterwards
abbrev pub Gave : WireState → List ℕ → Option ℕ → WireState → Type 0
Gave old buffer (Some count) new =
    (0 < count) × (count ≤ length buffer) × (new.received ≡ old.received ++ take count buffer)
    × Consumes old.left new.left (take count buffer) × (new.stop ≡ None)
Gave old buffer None new =
    (new.received ≡ old.received)
    × (((new.stop ≡ Some Ended) × IsAtEnd new.left) ⊎ ((new.stop ≡ Some ReadFailed) × Keeps old.left new.left))

-- one write
abbrev pub Took : WireState → List ℕ → Option ℕ → WireState → Type 0
Took old bytes (Some count) new =
    (0 < count) × (count ≤ length bytes) × (new.sent ≡ old.sent ++ take count bytes)
    × Appends old.held new.held (take count bytes) × (new.stop ≡ None)
Took old bytes None new = (new.sent ≡ old.sent) × (new.stop ≡ Some WriteFailed) × Keeps old.held new.held

-- one flush
abbrev pub Flushed : WireState → Option (Unit {0}) → WireState → Type 0
Flushed old (Some done) new = (new.stop ≡ None) × Keeps old.held new.held
Flushed old None new = (new.stop ≡ Some WriteFailed) × Keeps old.held new.held

-- what a read with room for so many bytes does but for what it gives
pub record IsRead (room : ℕ) (old new : WireState) : Type 0 where
  pub line : new.line ≡ old.line
  pub sent : new.sent ≡ old.sent
  pub reads : new.reads ≡ old.reads + 1
  pub rooms : new.rooms ≡ old.rooms ++ room ∷ []
  pub flushes : new.flushes ≡ old.flushes

-- what a write leaves as it was
pub record IsWrite (old new : WireState) : Type 0 where
  pub line : new.line ≡ old.line
  pub received : new.received ≡ old.received
  pub reads : new.reads ≡ old.reads
  pub rooms : new.rooms ≡ old.rooms
  pub flushes : new.flushes ≡ old.flushes

-- what a flush leaves as it was, but for their count
pub record IsFlush (old new : WireState) : Type 0 where
  pub line : new.line ≡ old.line
  pub received : new.received ≡ old.received
  pub sent : new.sent ≡ old.sent
  pub reads : new.reads ≡ old.reads
  pub rooms : new.rooms ≡ old.rooms
  pub flushes : new.flushes ≡ old.flushes + 1
