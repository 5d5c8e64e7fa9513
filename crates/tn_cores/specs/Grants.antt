-- The name of the logical unit that a host grants a terminal (RFC 2355, section 7.1).
use Rattle.std.specs.Prelude.{ℕ, List, [], Option, Some, None}
use Rattle.tn_wire.specs.Stream.{Told as Event}
use Rattle.tn_cores.specs.declared.terminal.TerminalPhase.{TerminalPhase}
use Rattle.tn_cores.specs.declared.terminal.TerminalPhase.TheVariants.{Device}
use Rattle.tn_cores.specs.declared.terminal.TermCore.{TermCore}
use Rattle.tn_cores.specs.Heard.{Heard, Joined, alone, associate, connect, heard, hears_device}

-- what CONNECT names; nothing where the device's name is followed by something else, or by nothing
abbrev pub lu_name_of : Joined → List ℕ
lu_name_of alone = []
lu_name_of associate = []
lu_name_of (connect resource) = resource

-- DEVICE-TYPE IS grants, once a device was asked for; no other event does
abbrev pub granted_in : TerminalPhase → Heard → Option (List ℕ)
granted_in Device (hears_device naming) = Some (lu_name_of naming.joined)
granted_in phase hears = None

abbrev pub granted_lu_name : TermCore → Event → Option (List ℕ)
granted_lu_name core event = granted_in core.phase (heard event)
