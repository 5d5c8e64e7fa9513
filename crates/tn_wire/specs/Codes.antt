-- The command codes of Telnet (RFC 854, 885), and the limits of this crate (own), as numbers.
use Rattle.std.specs.Prelude.{ℕ}

-- interpret as command, FF
abbrev pub iac : ℕ
iac = 255

-- the beginning and the end of a subnegotiation, FA and F0
abbrev pub sub_begin : ℕ
sub_begin = 250

abbrev pub sub_end : ℕ
sub_end = 240

-- the end of a record, EF
abbrev pub end_of_record : ℕ
end_of_record = 239

-- the most bytes of a record, and of a subnegotiation after its option
abbrev pub record_most : ℕ
record_most = 32768

abbrev pub sub_most : ℕ
sub_most = 256
