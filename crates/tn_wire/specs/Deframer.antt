-- What callers see of a deframer, and what a call of it does.
use Rattle.std.specs.Prelude.{ℕ, ◌≡◌, ◌≢◌, ◌<◌, List, [], ◌++◌, length, Option, None, Some, Result, Ok, Err, MatchResult}
use Rattle.tn_wire.specs.declared.event.WireFault.{WireFault}
use Rattle.tn_wire.specs.Stream.{Told}
use Rattle.tn_wire.specs.Calls.{Answers}

-- what is open of the stream, as it was spelled; the fault that was met; the bytes that the event told last lends
pub record Held : Type 0 where
  pub content : List ℕ
  pub fault : Option WireFault
  pub lent : List ℕ

-- A call that finds this held and these bytes of input, answers these events or a fault, and leaves this.
pub record Moves (old : Held) (before : List ℕ) (events : Result (List Told) WireFault) (new : Held) (after : List ℕ) : Type 0 where
  -- with no fault so far it takes a front of the input, and answers what that tells
  pub fresh : old.fault ≡ None → (taken : List ℕ) × (before ≡ taken ++ after) × Answers old.content taken events new.content
  -- a fault met is kept
  pub kept : MatchResult events (λ told. new.fault ≡ None) (λ w. new.fault ≡ Some w)
  -- and is answered ever after, with no input taken
  pub faulted : (w : WireFault) → old.fault ≡ Some w → (events ≡ Err w) × (after ≡ before)
  -- no event is answered only where no input is left
  pub used_up : events ≡ Ok [] → after ≡ []
  -- an event takes a byte
  pub shorter : MatchResult events (λ told. told ≢ [] → length after < length before) (λ w. old.fault ≡ None → length after < length before)
