-- The tokens of a Telnet stream that carries records, and how each is spelled (RFC 854, 855, 856, 885).
use Rattle.std.specs.Prelude.{ℕ, ◌<◌, ◌≤◌, ◌≡◌, Bool, true, ◌||◌, not, ◌==◌, if◌then◌else◌, List, [], ◌∷◌, ◌++◌, length}
use Rattle.std.specs.List.{flat_map}
use Rattle.tn_wire.specs.Codes.{iac, sub_begin, sub_end, end_of_record, record_most, sub_most}
use Rattle.tn_wire.specs.Verbs.{is_verb}

-- a byte of a record's data, a record's end, a verb with its option, a subnegotiation with its option, another command
pub data Token : Type 0 where
  data_byte : ℕ → Token
  record_end : Token
  command : (verb option : ℕ) → Token
  subnegotiation : (option : ℕ) (parameters : List ℕ) → Token
  passed : ℕ → Token

-- IAC is written twice, any other byte once
abbrev pub quoted_byte : ℕ → List ℕ
quoted_byte b = if b == iac then iac ∷ iac ∷ [] else b ∷ []

abbrev pub quoted : List ℕ → List ℕ
quoted bytes = flat_map quoted_byte bytes

abbrev pub spelling : Token → List ℕ
spelling (data_byte b) = quoted_byte b
spelling record_end = iac ∷ end_of_record ∷ []
spelling (command verb option) = iac ∷ verb ∷ option ∷ []
spelling (subnegotiation option parameters) = iac ∷ sub_begin ∷ (quoted (option ∷ parameters) ++ iac ∷ sub_end ∷ [])
spelling (passed b) = iac ∷ b ∷ []

-- a code that begins another token after IAC
abbrev pub has_meaning : ℕ → Bool
has_meaning b = b == iac || b == end_of_record || b == sub_begin || is_verb b

-- the data of the record that is open, after tokens that come when this much of it is
abbrev pub pending_after : List ℕ → List Token → List ℕ
pending_after pending [] = pending
pending_after pending (data_byte b ∷ ts) = pending_after (pending ++ b ∷ []) ts
pending_after pending (record_end ∷ ts) = pending_after [] ts
pending_after pending (command verb option ∷ ts) = pending_after pending ts
pending_after pending (subnegotiation option parameters ∷ ts) = pending_after pending ts
pending_after pending (passed b ∷ ts) = pending_after pending ts

-- the token may come while this data is open: a record and a subnegotiation have their limits
abbrev pub MayCome : List ℕ → Token → Type 0
MayCome pending (data_byte b) = length pending < record_most
MayCome pending record_end = Unit {0}
MayCome pending (command verb option) = is_verb verb ≡ true
MayCome pending (subnegotiation option parameters) = length parameters ≤ sub_most
MayCome pending (passed b) = not (has_meaning b) ≡ true

abbrev pub AreTokens : List ℕ → List Token → Type 0
AreTokens pending [] = Unit {0}
AreTokens pending (t ∷ ts) = MayCome pending t × AreTokens (pending_after pending (t ∷ [])) ts

-- the bytes are less than the whole of a token that may come
pub record IsPartial (pending bytes : List ℕ) : Type 0 where
  pub token : Token
  pub more : List ℕ
  pub comes : MayCome pending token
  pub longer : 0 < length more
  pub spelled : spelling token ≡ bytes ++ more

-- the bytes are these tokens, spelled one after the other, and then less than a whole one
pub record SpellsTokens (bytes : List ℕ) (tokens : List Token) (rest : List ℕ) : Type 0 where
  pub whole : bytes ≡ flat_map spelling tokens ++ rest
  pub each : AreTokens [] tokens
  pub partial : IsPartial (pending_after [] tokens) rest
