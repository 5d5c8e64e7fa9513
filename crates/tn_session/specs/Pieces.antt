-- Pieces of a stream that a session is given one after the other: how they are cut doesn't matter.
use Rattle.std.specs.Prelude.{ℕ, ◌≡◌, List, [], ◌∷◌, ◌++◌, Result}
use Rattle.tn_wire.specs.Stream.{Told}
use Rattle.tn_session.specs.declared.fault.RunFault.{RunFault}
use Rattle.tn_session.specs.declared.progress.Progress.{Progress}
use Rattle.tn_session.specs.OneLog.{Standing, waits, HasLog}
use Rattle.tn_session.specs.Runs.{Log}
use Rattle.tn_session.specs.Talk.{Talk, stands, Takes}

-- what more bytes make of a log that stands so: one that goes on by their log, one that ended by nothing
abbrev pub LogOn : {State : Type 0} → (State → Told → Log State) → Standing State → List ℕ → List ℕ → Standing State → Type 0
LogOn act (waits state left) bytes due later = HasLog act left state bytes due later
LogOn act standing bytes due later = (due ≡ []) × (later ≡ standing)

-- the pieces as one
abbrev pub whole_of : List (List ℕ) → List ℕ
whole_of [] = []
whole_of (piece ∷ pieces) = piece ++ whole_of pieces

-- a session is given the pieces by calls, and gives these bytes in all
abbrev pub TakesAll : {State : Type 0} → (State → Told → Log State) → Talk State → List (List ℕ) → List ℕ → Talk State → Type 0
TakesAll act old [] given new = (given ≡ []) × (new ≡ old)
TakesAll {State = State} act old (piece ∷ pieces) given new =
    (result : Result Progress RunFault) × (first : List ℕ) × (mid : Talk State) × (rest : List ℕ)
    × Takes act old piece result first mid × TakesAll act mid pieces rest new × (given ≡ first ++ rest)

-- After any calls, from the beginning of a stream, all that was given is due by the log of the whole, and so the session stands.
abbrev pub PiecesHaveLog : (State : Type 0) → Type 0
PiecesHaveLog State =
    (act : State → Told → Log State) (state : State) (pieces : List (List ℕ)) (given : List ℕ) (new : Standing State)
    → TakesAll act (stands (waits state [])) pieces given (stands new) → HasLog act [] state (whole_of pieces) given new

-- so two sessions that were given the same bytes, cut in any two ways, gave the same and stand alike
abbrev pub CutsAgree : (State : Type 0) → Type 0
CutsAgree State =
    (act : State → Told → Log State) (state : State) (pieces others : List (List ℕ)) (given more : List ℕ) (new other : Standing State)
    → whole_of pieces ≡ whole_of others → TakesAll act (stands (waits state [])) pieces given (stands new)
    → TakesAll act (stands (waits state [])) others more (stands other) → (given ≡ more) × (new ≡ other)
