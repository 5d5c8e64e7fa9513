-- Where a connection's records begin: plain text that a host sent before the last command of its negotiation, and before any
-- record, is no record's.
use Rattle.std.specs.Prelude.{ℕ, Bool, true, false, ◌==◌, ◌&&◌, ◌||◌, nat_le, nat_lt, List, [], ◌∷◌, if◌then◌else◌}
use Rattle.tn_wire.specs.Stream.{Told, told_record, told_verb, told_sub, told_passed}
use Rattle.tn_traces.specs.declared.line.Side.{Side}
use Rattle.tn_traces.specs.declared.line.Side.TheVariants.{Host, Terminal}
use Rattle.cli_traces.specs.declared.start.Place.{Place}
use Rattle.cli_traces.specs.declared.start.Place.TheVariants.{Data, Command, Verb, Sub, SubCommand}
use Rattle.cli_traces.specs.declared.start.Start.{Start}
use Rattle.cli_traces.specs.declared.start.Start.TheVariants.{Agreeing, Cutting, Begun}

-- the options that make a session of records: BINARY, TERMINAL-TYPE, END-OF-RECORD and TN3270E (RFC 1576; RFC 2355)
abbrev pub is_session_option : ℕ → Bool
is_session_option option = option == 0 || (option == 24 || (option == 25 || option == 40))

-- a command of the negotiation
abbrev pub is_agreeing : Told → Bool
is_agreeing (told_record bytes) = false
is_agreeing (told_verb verb option) = is_session_option option
is_agreeing (told_sub option parameters) = is_session_option option
is_agreeing (told_passed byte) = false

-- such a command of the host ends the text before it, as long as no record came
abbrev pub start_after : Side → Start → Told → Start
start_after Host Agreeing event = if is_agreeing event then Cutting else Agreeing
start_after Host Cutting event = Cutting
start_after Host Begun event = Begun
start_after Terminal start event = start

-- what is open of the side's stream ends here, if it is text
abbrev pub is_cutting : Side → Start → Bool
is_cutting Host Cutting = true
is_cutting Host Agreeing = false
is_cutting Host Begun = false
is_cutting Terminal start = false

-- text may still come
abbrev pub may_cut : Side → Start → Bool
may_cut Host Agreeing = true
may_cut Host Cutting = true
may_cut Host Begun = false
may_cut Terminal start = false

-- a record of the host begins the session
abbrev pub start_with : Side → Start → Start
start_with Host start = Begun
start_with Terminal start = start

-- how a stream spells the end of what is open: IAC EOR (RFC 885)
abbrev pub record_end : List ℕ
record_end = 0xFF ∷ 0xEF ∷ []

-- ---- plain text, byte by byte

-- after IAC: a verb with its option, a subnegotiation, or a byte that ends its token
abbrev pub place_of : ℕ → Place
place_of byte = if nat_le 0xFB byte && nat_le byte 0xFE then Verb else if byte == 0xFA then Sub else Data

-- where in its token a stream stands after one more byte (RFC 854)
abbrev pub place_after : Place → ℕ → Place
place_after Data byte = if byte == 0xFF then Command else Data
place_after Command byte = place_of byte
place_after Verb byte = Data
place_after Sub byte = if byte == 0xFF then SubCommand else Sub
place_after SubCommand byte = if byte == 0xF0 then Data else Sub

-- Text is of seven bits, as a network virtual terminal's (RFC 854): whether what is open is text, where it was so before. A
-- doubled IAC is a byte of data.
abbrev pub plain_after : Place → ℕ → Bool → Bool
plain_after Data byte plain = plain && (nat_lt byte 0x80 || byte == 0xFF)
plain_after Command byte plain = if byte == 0xFF then false else plain
plain_after Verb byte plain = plain
plain_after Sub byte plain = plain
plain_after SubCommand byte plain = plain
