-- What a call of the deframer answers.
use Rattle.std.specs.Prelude.{ℕ, ◌<◌, ◌≡◌, List, [], ◌∷◌, ◌++◌, length, Result, Ok, Err, MatchResult}
use Rattle.tn_wire.specs.declared.event.WireFault.{WireFault}
use Rattle.tn_wire.specs.declared.event.Event.{Event as EventValue}
use Rattle.tn_wire.specs.declared.event.Event.TheVariants.{Record as RecordEvent, Verb as VerbEvent, Sub as SubEvent, Passed as PassedEvent}
use Rattle.tn_wire.specs.declared.event.Step.{Step}
use Rattle.tn_wire.specs.declared.event.Step.TheVariants.{NeedMore, Event}
use Rattle.tn_wire.specs.Verbs.{verb_code}
use Rattle.tn_wire.specs.Stream.{Told, told_record, told_verb, told_sub, told_passed, Tells, Faults}

-- an event by its bytes
abbrev pub told_of : EventValue → Told
told_of (RecordEvent bytes) = told_record bytes.now
told_of (VerbEvent verb option) = told_verb (verb_code verb) option
told_of (SubEvent option parameters) = told_sub option parameters.now
told_of (PassedEvent b) = told_passed b

-- the events of a step: one, or none
abbrev pub step_events : Step → List Told
step_events NeedMore = []
step_events (Event event) = told_of event ∷ []

abbrev pub events_in : Result Step WireFault → Result (List Told) WireFault
events_in (Ok step) = Ok (step_events step)
events_in (Err fault) = Err fault

-- the bytes tell nothing, and are not at fault
abbrev pub IsQuiet : List ℕ → Type 0
IsQuiet bytes = (left : List ℕ) × Tells bytes [] left

-- A call that finds the bytes `old` open and takes these answers `events` and leaves `new` open, or answers a fault
-- at the last byte taken. It takes no byte more than it needs.
pub record Answers (old taken : List ℕ) (events : Result (List Told) WireFault) (new : List ℕ) : Type 0 where
  pub answer : MatchResult events (λ told. Tells (old ++ taken) told new) (λ fault. Faults (old ++ taken) [] fault)
  pub needed : (front more : List ℕ) → taken ≡ front ++ more → 0 < length more → IsQuiet (old ++ front)

-- each answer that a front of the input gives is this one, with this input left
abbrev pub IsOnlyAnswer : List ℕ → List ℕ → Result (List Told) WireFault → List ℕ → Type 0
IsOnlyAnswer old input events after = (taken rest left : List ℕ) (others : Result (List Told) WireFault) → input ≡ taken ++ rest
    → Answers old taken others left → (others ≡ Ok [] → rest ≡ []) → (others ≡ events) × (rest ≡ after)
