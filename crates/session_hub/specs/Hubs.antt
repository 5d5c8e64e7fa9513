-- A hub: what an event does to each seat.
use Rattle.std.specs.Prelude.{ℕ, ◌≡◌, ◌==◌, List, [], ◌∷◌, Option, Some, None, option_map, get_or, if◌then◌else◌}
use Rattle.session_hub.specs.declared.session.Came.{Came}
use Rattle.session_hub.specs.declared.seat.Limits.{Limits}
use Rattle.session_hub.specs.declared.seat.Stand.{Stand}
use Rattle.session_hub.specs.declared.seat.Stand.TheVariants.{Ended as HasEnded}
use Rattle.session_hub.specs.declared.hub.Ended.{Ended}
use Rattle.session_hub.specs.Seats.{Seated, HearsIn, opened, sent, closed, broken, ticked}

-- what a session does with bytes
abbrev pub Taking : Type 0 → Type 1
Taking S = S → List ℕ → Came → List ℕ → S → Type 0

-- ---- one terminal

-- What happens to one terminal: it comes, with its number, the time, its session and what is due to it first; bytes come, at a
-- time; so many go out; its line closes; its line breaks; time passes; it leaves, where it has ended.
pub data Own (S : Type 0) : Type 0 where
  Opens : ℕ → ℕ → S → List ℕ → Own S
  Hears : ℕ → List ℕ → Own S
  Sends : ℕ → Own S
  Closes : Own S
  Breaks : Own S
  Ticks : ℕ → Own S
  Leaves : Own S

abbrev pub opened_in : {S : Type 0} → Limits → ℕ → ℕ → S → List ℕ → Option (Seated S) → Option (Seated S)
opened_in limits number now session opening None = Some (opened limits number now session opening)
opened_in limits number now session opening (Some seat) = Some seat

abbrev pub HearsAt : {S : Type 0} → Taking S → Limits → ℕ → List ℕ → Option (Seated S) → Option (Seated S) → Type 0
HearsAt takes limits now bytes None new = new ≡ None
HearsAt {S = S} takes limits now bytes (Some seat) new = (next : Seated S) × HearsIn takes limits now bytes seat.stand seat next × (new ≡ Some next)

abbrev pub left_by : {S : Type 0} → Stand → Seated S → Option (Seated S)
left_by (HasEnded end) seat = None
left_by stand seat = Some seat

abbrev pub left_in : {S : Type 0} → Option (Seated S) → Option (Seated S)
left_in None = None
left_in (Some seat) = left_by seat.stand seat

-- what its own event does to a terminal, whether it is there or not
abbrev pub Happens : {S : Type 0} → Taking S → Limits → Own S → Option (Seated S) → Option (Seated S) → Type 0
Happens takes limits (Opens number now session opening) old new = new ≡ opened_in limits number now session opening old
Happens takes limits (Hears now bytes) old new = HearsAt takes limits now bytes old new
Happens takes limits (Sends count) old new = new ≡ option_map (sent count) old
Happens takes limits Closes old new = new ≡ option_map closed old
Happens takes limits Breaks old new = new ≡ option_map broken old
Happens takes limits (Ticks now) old new = new ≡ option_map (ticked limits now) old
Happens takes limits Leaves old new = new ≡ left_in old

-- its own events in turn
abbrev pub LedAlone : {S : Type 0} → Taking S → Limits → List (Own S) → Option (Seated S) → Option (Seated S) → Type 0
LedAlone takes limits [] old new = new ≡ old
LedAlone {S = S} takes limits (own ∷ owns) old new =
    (mid : Option (Seated S)) × Happens takes limits own old mid × LedAlone takes limits owns mid new

-- ---- all terminals

-- one terminal's event, or time for all
pub data Happened (S : Type 0) : Type 0 where
  At : ℕ → Own S → Happened S
  Passed : ℕ → Happened S

-- a hub: its limits, how many terminals came, and the seats by token
pub record Room (S : Type 0) : Type 0 where
  pub limits : Limits
  pub came : ℕ
  pub seats : List (Option (Seated S))

abbrev pub seat_at : {S : Type 0} → ℕ → List (Option (Seated S)) → Option (Seated S)
seat_at t seats = get_or seats t None

-- what an event is to a terminal
abbrev pub own_of : {S : Type 0} → ℕ → Happened S → Option (Own S)
own_of t (At u own) = if u == t then Some own else None
own_of t (Passed now) = Some (Ticks now)

abbrev pub HappensIf : {S : Type 0} → Taking S → Limits → Option (Own S) → Option (Seated S) → Option (Seated S) → Type 0
HappensIf takes limits None old new = new ≡ old
HappensIf takes limits (Some own) old new = Happens takes limits own old new

-- an event does to each terminal what it is to that one
abbrev pub Steps : {S : Type 0} → Taking S → Limits → Happened S → List (Option (Seated S)) → List (Option (Seated S)) → Type 0
Steps takes limits event old new = (t : ℕ) → HappensIf takes limits (own_of t event) (seat_at t old) (seat_at t new)

-- events in turn
abbrev pub Led : {S : Type 0} → Taking S → Limits → List (Happened S) → List (Option (Seated S)) → List (Option (Seated S)) → Type 0
Led takes limits [] old new = new ≡ old
Led {S = S} takes limits (event ∷ events) old new =
    (mid : List (Option (Seated S))) × Steps takes limits event old mid × Led takes limits events mid new

-- the events of one terminal among all
abbrev pub with_own : {S : Type 0} → Option (Own S) → List (Own S) → List (Own S)
with_own None owns = owns
with_own (Some own) owns = own ∷ owns

abbrev pub owns_of : {S : Type 0} → ℕ → List (Happened S) → List (Own S)
owns_of t [] = []
owns_of t (event ∷ events) = with_own (own_of t event) (owns_of t events)

-- ---- what a caller sees

abbrev pub due_in : {S : Type 0} → Option (Seated S) → List ℕ
due_in None = []
due_in (Some seat) = seat.due

abbrev pub stand_in : {S : Type 0} → Option (Seated S) → Option Stand
stand_in None = None
stand_in (Some seat) = Some seat.stand

-- a terminal that ended: its session, its number, and how it ended
abbrev pub ended_by : {S : Type 0} → Stand → Seated S → Option (Ended S)
ended_by (HasEnded end) seat = Some (record { session = seat.session; number = seat.number; end = end })
ended_by stand seat = None

abbrev pub ended_in : {S : Type 0} → Option (Seated S) → Option (Ended S)
ended_in None = None
ended_in (Some seat) = ended_by seat.stand seat

-- ---- laws

-- of one terminal a hub knows what a hub would know that saw its events alone
abbrev pub IsIsolated : {S : Type 0} → Taking S → Type 0
IsIsolated {S = S} takes =
    (limits : Limits) (events : List (Happened S)) (old new : List (Option (Seated S)))
    → Led takes limits events old new → (t : ℕ) → LedAlone takes limits (owns_of t events) (seat_at t old) (seat_at t new)

-- what a session does with bytes is determined
abbrev pub IsDetermined : {S : Type 0} → Taking S → Type 0
IsDetermined {S = S} takes =
    (session : S) (bytes : List ℕ) (came other : Came) (given more : List ℕ) (after later : S)
    → takes session bytes came given after → takes session bytes other more later
    → (came ≡ other) × (given ≡ more) × (after ≡ later)

-- then the events of a terminal alone determine its seat
abbrev pub IsDeterminedAlone : {S : Type 0} → Taking S → Type 0
IsDeterminedAlone {S = S} takes =
    IsDetermined takes → (limits : Limits) (owns : List (Own S)) (old new other : Option (Seated S))
    → LedAlone takes limits owns old new → LedAlone takes limits owns old other → new ≡ other
