-- Records as they go over a line.
use Rattle.std.specs.Prelude.{ℕ, ◌+◌, nat_lt, List, [], ◌∷◌, ◌++◌, if◌then◌else◌}
use Rattle.tn_wire.specs.Codes.{iac, end_of_record}
use Rattle.tn_wire.specs.Telnet.{quoted}
use Rattle.tn_wire.specs.declared.header.Header.{Header}
use Rattle.tn_wire.specs.declared.header.DataType.TheVariants.{Data3270}
use Rattle.tn_wire.specs.Header.{header_bytes}
use Rattle.tn_cores.specs.declared.session.Agreed.{Agreed}

-- each IAC twice, and then the record's end
abbrev pub framed : List ℕ → List ℕ
framed bytes = quoted bytes ++ iac ∷ end_of_record ∷ []

-- Sequence numbers go from 0 up to 32,767, and then on from 0.
abbrev pub next_sequence : ℕ → ℕ
next_sequence sequence = if nat_lt sequence 32767 then sequence + 1 else 0

-- they are counted where RESPONSES are agreed on, else each is 0
abbrev pub numbered : Agreed → ℕ → ℕ
numbered agreed sequence = if agreed.responses then sequence else 0

-- the header of 3270 data
abbrev pub data_header : ℕ → ℕ → Header
data_header response sequence = record { data_type = Data3270; request = 0; response = response; seq = sequence }

-- a record of 3270 data: with a header where the session is enhanced
abbrev pub sent_data : Agreed → ℕ → ℕ → List ℕ → List ℕ
sent_data agreed response sequence bytes =
    framed (if agreed.enhanced then header_bytes (data_header response (numbered agreed sequence)) ++ bytes else bytes)
