-- The address of a host, as `Connect` takes it.
use Rattle.std.specs.Prelude.{ℕ, ◌+◌, ◌==◌, nat_le, nat_lt, Bool, not, ◌&&◌, ◌||◌, List, [], ◌∷◌, ◌++◌, codes, length, take, drop, slice_index, Option, Some, None, Result, Ok, Err, if◌then◌else◌}
use Rattle.std.specs.List.{list_all, list_any, prefix_len}
use Rattle.ds_screen.specs.Ring.{greatest}
use Rattle.script_keys.specs.declared.number.Number.{Number}
use Rattle.script_keys.specs.declared.number.Number.TheVariants.{Negative, Natural}
use Rattle.script_keys.specs.Numbers.{number_of}
use Rattle.script_requests.specs.declared.address.AddressFault.{AddressFault}
use Rattle.script_requests.specs.declared.address.AddressFault.TheVariants.{Empty, Blank, NoHost, NoPort, NoLuName, TwoColons, TwoAts, NoBracket, AfterBracket, BadPort}

-- the name of a device, empty where none is given, a host and a port
pub record Address : Type 0 where
  pub lu_name : List ℕ
  pub host : List ℕ
  pub port : Option ℕ

abbrev pub address : List ℕ → List ℕ → Option ℕ → Address
address lu_name host port = record { lu_name = lu_name; host = host; port = port }

-- space, and 09 to 0D
abbrev pub is_blank : ℕ → Bool
is_blank byte = (byte == 0x20) || (nat_le 0x09 byte && nat_le byte 0x0D)

abbrev pub is_used_at : List ℕ → ℕ → Bool
is_used_at text i = not (is_blank (slice_index text i))

abbrev pub up_to : List ℕ → Option ℕ → List ℕ
up_to text None = []
up_to text (Some last) = take (last + 1) text

-- without the blanks at its end
abbrev pub without_end : List ℕ → List ℕ
without_end text = up_to text (greatest (length text) (is_used_at text))

-- without the blanks around it
abbrev pub trimmed : List ℕ → List ℕ
trimmed text = without_end (drop (prefix_len is_blank text) text)

abbrev pub is_other : ℕ → ℕ → Bool
is_other byte other = not (other == byte)

abbrev pub parted : List ℕ → ℕ → Option (List ℕ × List ℕ)
parted text at = if nat_lt at (length text) then Some (take at text, drop (at + 1) text) else None

-- what stands before the first of a byte, and after it
abbrev pub split_by : ℕ → List ℕ → Option (List ℕ × List ℕ)
split_by byte text = parted text (prefix_len (is_other byte) text)

abbrev pub is_digit : ℕ → Bool
is_digit byte = nat_le 0x30 byte && nat_le byte 0x39

abbrev pub port_value : Number → Result ℕ AddressFault
port_value Negative = Err BadPort
port_value (Natural port) = if nat_le 1 port && nat_le port 65535 then Ok port else Err BadPort

-- digits alone, that make 1 to 65,535
abbrev pub port_of : List ℕ → Result ℕ AddressFault
port_of [] = Err NoPort
port_of (byte ∷ bytes) =
    if list_any (λ other. other == 0x3A) (byte ∷ bytes) then Err TwoColons
    else (if list_all is_digit (byte ∷ bytes) then port_value (number_of (byte ∷ bytes)) else Err BadPort)

abbrev pub at_port : List ℕ → List ℕ → Result ℕ AddressFault → Result Address AddressFault
at_port lu_name host (Ok port) = Ok (address lu_name host (Some port))
at_port lu_name host (Err why) = Err why

abbrev pub with_port : List ℕ → List ℕ → List ℕ → Result Address AddressFault
with_port lu_name host port = at_port lu_name host (port_of port)

abbrev pub with_host : List ℕ → List ℕ → List ℕ → Result Address AddressFault
with_host lu_name [] port = Err NoHost
with_host lu_name (byte ∷ host) port = with_port lu_name (byte ∷ host) port

abbrev pub or_host : List ℕ → List ℕ → Option (List ℕ × List ℕ) → Result Address AddressFault
or_host lu_name text None = Ok (address lu_name text None)
or_host lu_name text (Some parts) = with_host lu_name parts.0 parts.1

abbrev pub split_port : List ℕ → List ℕ → Result Address AddressFault
split_port lu_name text = or_host lu_name text (split_by 0x3A text)

-- what comes after `]`
abbrev pub after_bracket : List ℕ → List ℕ → List ℕ → Result Address AddressFault
after_bracket lu_name host [] = Ok (address lu_name host None)
after_bracket lu_name host (byte ∷ port) = if byte == 0x3A then with_port lu_name host port else Err AfterBracket

abbrev pub bracketed : List ℕ → List ℕ → List ℕ → Result Address AddressFault
bracketed lu_name [] rest = Err NoHost
bracketed lu_name (byte ∷ host) rest = after_bracket lu_name (byte ∷ host) rest

abbrev pub or_bracket : List ℕ → Option (List ℕ × List ℕ) → Result Address AddressFault
or_bracket lu_name None = Err NoBracket
or_bracket lu_name (Some parts) = bracketed lu_name parts.0 parts.1

abbrev pub split_brackets : List ℕ → List ℕ → Result Address AddressFault
split_brackets lu_name text = or_bracket lu_name (split_by 0x5D text)

abbrev pub split_host : List ℕ → List ℕ → Result Address AddressFault
split_host lu_name [] = Err NoHost
split_host lu_name (byte ∷ rest) = if byte == 0x5B then split_brackets lu_name rest else split_port lu_name (byte ∷ rest)

-- `N:`, in either case, is ignored
abbrev pub after_prefix : List ℕ → List ℕ
after_prefix (first ∷ second ∷ rest) =
    if ((first == 0x4E) || (first == 0x6E)) && (second == 0x3A) then rest else first ∷ second ∷ rest
after_prefix text = text

abbrev pub named : List ℕ → List ℕ → Result Address AddressFault
named [] rest = Err NoLuName
named (byte ∷ lu_name) rest = if list_any (λ other. other == 0x40) rest then Err TwoAts else split_host (byte ∷ lu_name) rest

abbrev pub or_named : List ℕ → Option (List ℕ × List ℕ) → Result Address AddressFault
or_named text None = split_host [] text
or_named text (Some parts) = named parts.0 parts.1

abbrev pub split_name : List ℕ → Result Address AddressFault
split_name text = or_named text (split_by 0x40 text)

abbrev pub read_trimmed : List ℕ → Result Address AddressFault
read_trimmed [] = Err Empty
read_trimmed (byte ∷ text) = if list_any is_blank (byte ∷ text) then Err Blank else split_name (after_prefix (byte ∷ text))

abbrev pub read_address : List ℕ → Result Address AddressFault
read_address text = read_trimmed (trimmed text)

abbrev pub fault_words : AddressFault → List ℕ
fault_words Empty = codes "empty"
fault_words Blank = codes "contains whitespace"
fault_words NoHost = codes "empty hostname"
fault_words NoPort = codes "empty port"
fault_words NoLuName = codes "empty LU name"
fault_words TwoColons = codes "double ':'"
fault_words TwoAts = codes "double '@'"
fault_words NoBracket = codes "missing ']'"
fault_words AfterBracket = codes "text following ']'"
fault_words BadPort = codes "invalid port"

abbrev pub syntax_text : List ℕ → List ℕ → List ℕ
syntax_text text words = codes "Hostname syntax error in '" ++ (text ++ (codes "': " ++ words))

abbrev pub address_fault_text : List ℕ → AddressFault → List ℕ
address_fault_text text Empty = codes "Invalid (empty) hostname"
address_fault_text text why = syntax_text text (fault_words why)
