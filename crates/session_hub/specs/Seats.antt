-- One terminal's seat, and what its own events do to it.
use Rattle.std.specs.Prelude.{ℕ, ◌≡◌, ◌+◌, ◌-◌, ◌==◌, nat_le, nat_lt, Bool, not, ◌&&◌, List, [], ◌++◌, length, drop, Option, Some, None, if◌then◌else◌}
use Rattle.session_hub.specs.declared.session.Came.{Came}
use Rattle.session_hub.specs.declared.session.Came.TheVariants.{More, Over as OverNow}
use Rattle.session_hub.specs.declared.seat.Limits.{Limits}
use Rattle.session_hub.specs.declared.seat.End.TheVariants.{Over, Closed, Broken, Idle, Slow, Flooded}
use Rattle.session_hub.specs.declared.seat.Stand.{Stand}
use Rattle.session_hub.specs.declared.seat.Stand.TheVariants.{Goes, Drains, Ended}

-- bytes were added, of which this holds
abbrev pub Adds : List ℕ → List ℕ → (List ℕ → Type 0) → Type 0
Adds old new Claim = (given : List ℕ) × (new ≡ old ++ given) × Claim given

-- A session, the number of its terminal, when something last came, how many bytes may still come, the bytes that are due,
-- and how it stands.
pub record Seated (S : Type 0) : Type 0 where
  pub session : S
  pub number : ℕ
  pub since : ℕ
  pub left : ℕ
  pub due : List ℕ
  pub stand : Stand

-- ---- how it stands after an event

-- after so many bytes, where so many may come and so many wait
abbrev pub stand_going : Limits → ℕ → ℕ → ℕ → Stand
stand_going limits left came due = if nat_lt left came then Ended Flooded else (if nat_lt limits.most_due due then Ended Slow else Goes)

-- a session that is over stays until all went out
abbrev pub stand_over : ℕ → Stand
stand_over due = if due == 0 then Ended Over else Drains

abbrev pub stand_after : Limits → ℕ → ℕ → ℕ → Came → Stand
stand_after limits left bytes due More = stand_going limits left bytes due
stand_after limits left bytes due OverNow = stand_over due

abbrev pub stand_sent : Stand → ℕ → Stand
stand_sent Drains due = stand_over due
stand_sent stand due = stand

abbrev pub stand_closed : Stand → Stand
stand_closed Goes = Ended Closed
stand_closed stand = stand

abbrev pub stand_broken : Stand → Stand
stand_broken (Ended end) = Ended end
stand_broken stand = Ended Broken

abbrev pub stand_late : Stand → Stand
stand_late (Ended end) = Ended end
stand_late stand = Ended Idle

-- nothing came for so long
abbrev pub is_late : Limits → ℕ → ℕ → Bool
is_late limits since now = nat_lt 0 limits.patience && nat_le (since + limits.patience) now

-- ---- what an event does

abbrev pub opened : {S : Type 0} → Limits → ℕ → ℕ → S → List ℕ → Seated S
opened limits number now session opening = record {
  session = session;
  number = number;
  since = now;
  left = limits.most_heard;
  due = opening;
  stand = Goes;
}

-- Its session takes bytes, and what is due after them is added.
pub record IsHeard {S : Type 0} (takes : S → List ℕ → Came → List ℕ → S → Type 0) (limits : Limits) (now : ℕ) (bytes : List ℕ) (old new : Seated S) : Type 0 where
  pub came : Came
  pub given : List ℕ
  pub after : S
  pub taken : takes old.session bytes came given after
  pub is : new ≡ record {
    session = after;
    number = old.number;
    since = now;
    left = old.left - length bytes;
    due = old.due ++ given;
    stand = stand_after limits old.left (length bytes) (length (old.due ++ given)) came;
  }

-- only one that goes on hears
abbrev pub HearsIn : {S : Type 0} → (S → List ℕ → Came → List ℕ → S → Type 0) → Limits → ℕ → List ℕ → Stand → Seated S → Seated S → Type 0
HearsIn takes limits now bytes Goes old new = IsHeard takes limits now bytes old new
HearsIn takes limits now bytes stand old new = new ≡ old

abbrev pub sent : {S : Type 0} → ℕ → Seated S → Seated S
sent count seat = record seat { due = drop count seat.due; stand = stand_sent seat.stand (length (drop count seat.due)) }

abbrev pub closed : {S : Type 0} → Seated S → Seated S
closed seat = record seat { stand = stand_closed seat.stand }

abbrev pub broken : {S : Type 0} → Seated S → Seated S
broken seat = record seat { stand = stand_broken seat.stand }

abbrev pub ticked : {S : Type 0} → Limits → ℕ → Seated S → Seated S
ticked limits now seat = record seat { stand = if is_late limits seat.since now then stand_late seat.stand else seat.stand }
