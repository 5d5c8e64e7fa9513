-- What a terminal's seat is to its session: the session is given what came, piece by piece, and gives what is due.
use Rattle.std.specs.Prelude.{ℕ, ◌≡◌, Bool, true, false, ◌&&◌, List, [], ◌∷◌, ◌++◌, Some}
use Rattle.session_hub.specs.declared.session.Came.{Came}
use Rattle.session_hub.specs.declared.seat.Limits.{Limits}
use Rattle.session_hub.specs.Seats.{Seated}
use Rattle.session_hub.specs.Hubs.{Taking, Own, Opens, Hears, Sends, Closes, Breaks, Ticks, Leaves, LedAlone}

-- a session is given pieces one after the other, and gives these bytes in all
abbrev pub TakesInTurn : {S : Type 0} → Taking S → S → List (List ℕ) → List ℕ → S → Type 0
TakesInTurn takes old [] given new = (given ≡ []) × (new ≡ old)
TakesInTurn {S = S} takes old (piece ∷ pieces) given new =
    (came : Came) × (first : List ℕ) × (mid : S) × (rest : List ℕ)
    × takes old piece came first mid × TakesInTurn takes mid pieces rest new × (given ≡ first ++ rest)

-- a terminal that is there stays
abbrev pub stays : {S : Type 0} → Own S → Bool
stays (Opens number now session opening) = false
stays (Hears now bytes) = true
stays (Sends count) = true
stays Closes = true
stays Breaks = true
stays (Ticks now) = true
stays Leaves = false

abbrev pub all_stay : {S : Type 0} → List (Own S) → Bool
all_stay [] = true
all_stay (own ∷ owns) = stays own && all_stay owns

-- what came, piece by piece
abbrev pub with_piece : {S : Type 0} → Own S → List (List ℕ) → List (List ℕ)
with_piece (Hears now bytes) pieces = bytes ∷ pieces
with_piece own pieces = pieces

abbrev pub pieces_in : {S : Type 0} → List (Own S) → List (List ℕ)
pieces_in [] = []
pieces_in (own ∷ owns) = with_piece own (pieces_in owns)

-- Its session was given a front of the pieces that came, in turn, and no others; and what went out and what is due are what was
-- due and what its session gave, in turn.
pub record IsItsOwn {S : Type 0} (takes : Taking S) (came : List (List ℕ)) (old new : Seated S) : Type 0 where
  pub pieces : List (List ℕ)
  pub rest : List (List ℕ)
  pub given : List ℕ
  pub gone : List ℕ
  pub front : came ≡ pieces ++ rest
  pub taken : TakesInTurn takes old.session pieces given new.session
  pub due : old.due ++ given ≡ gone ++ new.due
  pub number : new.number ≡ old.number

-- so it is of every terminal that stays, whatever else came to the hub
abbrev pub SessionsAreTheirOwn : {S : Type 0} → Taking S → Type 0
SessionsAreTheirOwn {S = S} takes =
    (limits : Limits) (owns : List (Own S)) (old new : Seated S)
    → all_stay owns ≡ true → LedAlone takes limits owns (Some old) (Some new) → IsItsOwn takes (pieces_in owns) old new
