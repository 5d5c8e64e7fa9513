-- What a stream tells, what it leaves open, and where it is at fault.
use Rattle.std.specs.Prelude.{ℕ, ◌+◌, ◌≤◌, ◌≡◌, ◌≢◌, ◌⊎◌, List, [], ◌∷◌, ◌++◌, length}
use Rattle.std.specs.List.{flat_map}
use Rattle.tn_wire.specs.Codes.{iac, sub_begin, sub_end, record_most, sub_most}
use Rattle.tn_wire.specs.declared.event.WireFault.{WireFault}
use Rattle.tn_wire.specs.declared.event.WireFault.TheVariants.{RecordTooLong, SubTooLong, BadSub}
use Rattle.tn_wire.specs.Telnet.{Token, data_byte, record_end, command, subnegotiation, passed, quoted, quoted_byte, spelling, pending_after, AreTokens, SpellsTokens}

-- an event, by its bytes alone
pub data Told : Type 0 where
  told_record : List ℕ → Told
  told_verb : (verb option : ℕ) → Told
  told_sub : (option : ℕ) (parameters : List ℕ) → Told
  told_passed : ℕ → Told

-- The events of tokens that come while this data is open. A record is the data since the record end before; what
-- comes inside a record leaves its data alone.
abbrev pub events_after : List ℕ → List Token → List Told
events_after pending [] = []
events_after pending (data_byte b ∷ ts) = events_after (pending ++ b ∷ []) ts
events_after pending (record_end ∷ ts) = told_record pending ∷ events_after [] ts
events_after pending (command verb option ∷ ts) = told_verb verb option ∷ events_after pending ts
events_after pending (subnegotiation option parameters ∷ ts) = told_sub option parameters ∷ events_after pending ts
events_after pending (passed b ∷ ts) = told_passed b ∷ events_after pending ts

-- the events of a stream's tokens
abbrev pub events_of : List Token → List Told
events_of tokens = events_after [] tokens

-- The bytes tell these events, and leave open the data of a record and less than a token.
pub record Tells (bytes : List ℕ) (events : List Told) (left : List ℕ) : Type 0 where
  pub tokens : List Token
  pub rest : List ℕ
  pub spelled : SpellsTokens bytes tokens rest
  pub told : events ≡ events_of tokens
  pub leaves : left ≡ quoted (pending_after [] tokens) ++ rest

-- bytes that can't stand while this data is open, the last of them being the one at fault
abbrev pub IsFault : WireFault → List ℕ → List ℕ → Type 0
-- a data byte past the record's limit
IsFault RecordTooLong pending bytes = (b : ℕ) × (record_most ≤ length pending) × (bytes ≡ quoted_byte b)
-- a byte past the subnegotiation's limit
IsFault SubTooLong pending bytes = (option : ℕ) × (parameters : List ℕ) × (b : ℕ) × (length parameters ≡ sub_most)
    × (bytes ≡ iac ∷ sub_begin ∷ (quoted (option ∷ parameters) ++ quoted_byte b))
-- in a subnegotiation IAC and a byte that is no IAC, and, behind an option, no SE
IsFault BadSub pending bytes = (inside : List ℕ) × (b : ℕ) × (length inside ≤ sub_most + 1) × (b ≢ iac)
    × ((inside ≡ []) ⊎ (b ≢ sub_end)) × (bytes ≡ iac ∷ sub_begin ∷ (quoted inside ++ iac ∷ b ∷ []))

-- The bytes tell these events, and their last byte is at fault.
pub record Faults (bytes : List ℕ) (events : List Told) (fault : WireFault) : Type 0 where
  pub tokens : List Token
  pub bad : List ℕ
  pub whole : bytes ≡ flat_map spelling tokens ++ bad
  pub each : AreTokens [] tokens
  pub told : events ≡ events_of tokens
  pub last : IsFault fault (pending_after [] tokens) bad
