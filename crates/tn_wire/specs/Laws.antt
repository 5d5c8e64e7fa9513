-- What holds of every stream, by the definition of its tokens.
use Rattle.std.specs.Prelude.{ℕ, ◌≡◌, ◌↔◌, List, [], ◌∷◌, ◌++◌, Result, Ok}
use Rattle.std.specs.List.{flat_map}
use Rattle.tn_wire.specs.declared.event.WireFault.{WireFault}
use Rattle.tn_wire.specs.Telnet.{Token, SpellsTokens}
use Rattle.tn_wire.specs.Stream.{Told, Tells, Faults}
use Rattle.tn_wire.specs.Calls.{Answers}

-- a stream is spelled by one list of tokens at most, with one rest
abbrev pub HasOneReading : Type 0
HasOneReading = (bytes : List ℕ) (ts us : List Token) (r s : List ℕ) → SpellsTokens bytes ts r → SpellsTokens bytes us s
    → (ts ≡ us) × (r ≡ s)

-- The parts of a stream, taken one after the other, tell these events and leave this open: each is read behind what
-- the parts before it left open.
abbrev pub TellInTurn : List ℕ → List (List ℕ) → List Told → List ℕ → Type 0
TellInTurn before [] events left = (events ≡ []) × (left ≡ before)
TellInTurn before (part ∷ parts) events left = (first : List Told) × (others : List Told) × (between : List ℕ)
    × (events ≡ first ++ others) × Tells (before ++ part) first between × TellInTurn between parts others left

-- parts taken in turn tell what the whole tells
abbrev pub TellsAsWhole : Type 0
TellsAsWhole = (parts : List (List ℕ)) (events : List Told) (left : List ℕ)
    → TellInTurn [] parts events left ↔ Tells (flat_map (λ part. part) parts) events left

-- a fault behind what a part left open is the whole's fault
abbrev pub FaultsAsWhole : Type 0
FaultsAsWhole = (front more left : List ℕ) (first others : List Told) (fault : WireFault) → Tells front first left
    → Faults (left ++ more) others fault ↔ Faults (front ++ more) (first ++ others) fault

-- nothing that goes on behind a fault is a stream
abbrev pub NoneAfterFault : Type 0
NoneAfterFault = (bytes more left : List ℕ) (events others : List Told) (fault : WireFault)
    → Faults bytes others fault → Tells (bytes ++ more) events left → ⊥

-- a stream has one fault, at one byte, after the same events
abbrev pub HasOneFault : Type 0
HasOneFault = (bytes more : List ℕ) (events others : List Told) (fault later : WireFault)
    → Faults bytes events fault → Faults (bytes ++ more) others later → (more ≡ []) × (events ≡ others) × (fault ≡ later)

-- What is open and what comes settle how much is taken, what is answered and what is left open: two calls that find the
-- same, each of which answers nothing only where no input is left, do the same.
abbrev pub HasOneAnswer : Type 0
HasOneAnswer = (old taken rest taken' rest' left left' : List ℕ) (events events' : Result (List Told) WireFault)
    → taken ++ rest ≡ taken' ++ rest' → Answers old taken events left → Answers old taken' events' left'
    → (events ≡ Ok [] → rest ≡ []) → (events' ≡ Ok [] → rest' ≡ [])
    → (taken ≡ taken') × (events ≡ events') × ((told : List Told) → events ≡ Ok told → left ≡ left')
