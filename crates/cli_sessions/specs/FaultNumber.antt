-- The number of each fault: a letter for what is at fault, and a count.
use Rattle.std.specs.Prelude.{ℕ, List, [], codes}
use Rattle.ds_inbound.specs.declared.refused.Why.{Why}
use Rattle.ds_inbound.specs.declared.refused.Why.TheVariants as inbound
use Rattle.scr_check.specs.declared.binding.BindFault.{BindFault}
use Rattle.scr_check.specs.declared.binding.BindFault.TheVariants.{NotDeclared, Longer, Twice, Lead}
use Rattle.tn_wire.specs.declared.event.WireFault.{WireFault}
use Rattle.tn_wire.specs.declared.event.WireFault.TheVariants.{RecordTooLong, SubTooLong, BadSub}
use Rattle.tn_wire.specs.declared.header.HeaderFault.{HeaderFault}
use Rattle.tn_wire.specs.declared.header.HeaderFault.TheVariants.{ShortHeader, UnknownType}
use Rattle.tn_cores.specs.declared.session.SessionFault.{SessionFault}
use Rattle.tn_cores.specs.declared.session.SessionFault.TheVariants.{Rejected, WrongList, BadSubnegotiation, OptionRefused, NotReady, BadResponse, TooManyReads, LineFault, NoDevice, Closed, TerminalRefused}
use Rattle.tn_session.specs.declared.fault.RunFault.{RunFault}
use Rattle.tn_session.specs.declared.fault.RunFault.TheVariants.{Wire, Header, Session, Inbound, Bind, OutOfMemory}

abbrev pub wire_number : WireFault → List ℕ
wire_number RecordTooLong = codes "W1"
wire_number SubTooLong = codes "W2"
wire_number BadSub = codes "W3"

abbrev pub header_number : HeaderFault → List ℕ
header_number ShortHeader = codes "H1"
header_number UnknownType = codes "H2"

abbrev pub session_number : SessionFault → List ℕ
session_number (Rejected reason) = codes "N1"
session_number WrongList = codes "N2"
session_number BadSubnegotiation = codes "N3"
session_number (OptionRefused option) = codes "N4"
session_number NotReady = codes "N5"
session_number BadResponse = codes "N6"
session_number TooManyReads = codes "N7"
session_number LineFault = codes "N8"
session_number NoDevice = codes "N9"
session_number Closed = codes "N10"
session_number (TerminalRefused reason) = codes "N11"

abbrev pub inbound_number : Why → List ℕ
inbound_number inbound.Empty = codes "I1"
inbound_number inbound.UnknownAid = codes "I2"
inbound_number inbound.Truncated = codes "I3"
inbound_number inbound.BadAddress = codes "I4"
inbound_number inbound.BadCharacter = codes "I5"
inbound_number inbound.Null = codes "I6"

abbrev pub bind_number : BindFault → List ℕ
bind_number NotDeclared = codes "B1"
bind_number Longer = codes "B2"
bind_number Twice = codes "B3"
bind_number Lead = codes "B4"

-- out of memory has no number: it is not printed
abbrev pub fault_number : RunFault → List ℕ
fault_number (Wire why) = wire_number why
fault_number (Header why) = header_number why
fault_number (Session why) = session_number why
fault_number (Inbound refused) = inbound_number refused.why
fault_number (Bind why) = bind_number why
fault_number OutOfMemory = []
