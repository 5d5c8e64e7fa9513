-- The terminal's end of a session: what it does at each event.
use Rattle.std.specs.Prelude.{ℕ, Bool, true, false, ◌&&◌, if◌then◌else◌, List, [], Err, Option, Some, None}
use Rattle.std.specs.Str.{str_eq_ignore_ascii_case}
use Rattle.tn_wire.specs.declared.codes.Verb.TheVariants.{Will, Wont, Do, Dont}
use Rattle.tn_cores.specs.declared.option.TelnetOption.{TelnetOption}
use Rattle.tn_cores.specs.declared.option.TelnetOption.TheVariants.{Binary, TerminalType, EndOfRecord, Tn3270e, Other}
use Rattle.tn_cores.specs.declared.heard.FunctionList.{FunctionList}
use Rattle.tn_cores.specs.declared.device.Device.{Device as DeviceValue}
use Rattle.tn_cores.specs.declared.session.Agreed.{Agreed}
use Rattle.tn_cores.specs.declared.session.SessionFault.TheVariants.{Rejected, WrongList, BadSubnegotiation, OptionRefused}
use Rattle.tn_cores.specs.declared.terminal.TermCore.{TermCore}
use Rattle.tn_cores.specs.declared.terminal.TypeState.{TypeState}
use Rattle.tn_cores.specs.declared.terminal.TypeState.TheVariants.{Off, On, Named}
use Rattle.tn_cores.specs.declared.terminal.TerminalPhase.{TerminalPhase}
use Rattle.tn_cores.specs.declared.terminal.TerminalPhase.TheVariants.{Classic, Opening, Enhanced, Device, Functions, Ready}
use Rattle.tn_cores.specs.Devices.{name_of}
use Rattle.tn_cores.specs.Heard.{Heard, Joined, alone, associate, connect, hears_record, hears_verb, hears_send_type, hears_type, hears_send_device, hears_device_request, hears_device, hears_device_reject, hears_functions_request, hears_functions, hears_bad, hears_nothing}
use Rattle.tn_cores.specs.Rows.{Row, neither, says, stays, once, ours_on, theirs_on, are_both, unless_on, is_set, is_within}
use Rattle.tn_cores.specs.Replies.{will, wont, do_, dont, type_is, request_device, request_functions, functions_are}

-- a terminal at the beginning of a session; `enhanced` says whether it takes TN3270E
abbrev pub new_terminal : DeviceValue → Bool → Bool → TermCore
new_terminal device enhanced responses = record {
  device = device;
  responses = responses;
  terminal_type = Off;
  binary = neither;
  end_of_record = neither;
  phase = if enhanced then Opening else Classic;
}

-- Classic: the name was sent, and BINARY and END-OF-RECORD are in force on both sides, with TN3270E off.
abbrev pub is_named : TypeState → Bool
is_named Off = false
is_named On = false
is_named Named = true

abbrev pub is_classic : TermCore → Bool
is_classic t = is_named t.terminal_type && (are_both t.binary && are_both t.end_of_record)

abbrev pub agreed_classic : TermCore → Option Agreed
agreed_classic t = if is_classic t then Some (record { enhanced = false; device = t.device; responses = false }) else None

abbrev pub agreed_in : TermCore → TerminalPhase → Option Agreed
agreed_in t Classic = agreed_classic t
agreed_in t Opening = agreed_classic t
agreed_in t (Ready responses) = Some (record { enhanced = true; device = t.device; responses = responses })
agreed_in t _ = None

-- what a terminal holds once it is ready
abbrev pub terminal_agreed : TermCore → Option Agreed
terminal_agreed t = agreed_in t t.phase

-- DO TERMINAL-TYPE: if off on our side, on and WILL
abbrev pub do_type : TermCore → TypeState → Row TermCore
do_type t Off = says (will TerminalType) (record t { terminal_type = On })
do_type t On = stays t
do_type t Named = stays t

-- DO TN3270E: the same where the terminal takes it and is not ready without it; else WONT
abbrev pub do_enhanced : TermCore → TerminalPhase → Row TermCore
do_enhanced t Classic = says (wont Tn3270e) t
do_enhanced t Opening = if is_classic t then says (wont Tn3270e) t else says (will Tn3270e) (record t { phase = Enhanced })
do_enhanced t _ = stays t

abbrev pub terminal_do : TermCore → TelnetOption → Row TermCore
terminal_do t Binary = once t.binary.ours (will Binary) t (record t { binary = ours_on t.binary })
terminal_do t TerminalType = do_type t t.terminal_type
terminal_do t EndOfRecord = once t.end_of_record.ours (will EndOfRecord) t (record t { end_of_record = ours_on t.end_of_record })
terminal_do t Tn3270e = do_enhanced t t.phase
terminal_do t (Other code) = says (wont (Other code)) t

-- WILL BINARY, END-OF-RECORD: if off on their side, on and DO; WILL of any other: DONT
abbrev pub terminal_will : TermCore → TelnetOption → Row TermCore
terminal_will t Binary = once t.binary.theirs (do_ Binary) t (record t { binary = theirs_on t.binary })
terminal_will t TerminalType = says (dont TerminalType) t
terminal_will t EndOfRecord = once t.end_of_record.theirs (do_ EndOfRecord) t (record t { end_of_record = theirs_on t.end_of_record })
terminal_will t Tn3270e = says (dont Tn3270e) t
terminal_will t (Other code) = says (dont (Other code)) t

-- DONT TN3270E: once ready with it refused; if on, off and WONT; else nothing
abbrev pub dont_enhanced : TermCore → TerminalPhase → Row TermCore
dont_enhanced t Classic = stays t
dont_enhanced t Opening = stays t
dont_enhanced t (Ready responses) = Err (OptionRefused 40)
dont_enhanced t _ = says (wont Tn3270e) (record t { phase = Opening })

abbrev pub is_type_on : TypeState → Bool
is_type_on Off = false
is_type_on On = true
is_type_on Named = true

-- DONT of BINARY, TERMINAL-TYPE, END-OF-RECORD in force on our side is refused; any other DONT is nothing
abbrev pub terminal_dont : TermCore → TelnetOption → Row TermCore
terminal_dont t Binary = unless_on t.binary.ours Binary t
terminal_dont t TerminalType = unless_on (is_type_on t.terminal_type) TerminalType t
terminal_dont t EndOfRecord = unless_on t.end_of_record.ours EndOfRecord t
terminal_dont t Tn3270e = dont_enhanced t t.phase
terminal_dont t (Other code) = stays t

-- WONT of BINARY, END-OF-RECORD in force on their side is refused; any other WONT is nothing
abbrev pub terminal_wont : TermCore → TelnetOption → Row TermCore
terminal_wont t Binary = unless_on t.binary.theirs Binary t
terminal_wont t TerminalType = stays t
terminal_wont t EndOfRecord = unless_on t.end_of_record.theirs EndOfRecord t
terminal_wont t Tn3270e = stays t
terminal_wont t (Other code) = stays t

-- TERMINAL-TYPE SEND, with TERMINAL-TYPE on: IS and the device's name
abbrev pub terminal_send_type : TermCore → TypeState → Row TermCore
terminal_send_type t Off = Err BadSubnegotiation
terminal_send_type t On = says (type_is (name_of t.device)) (record t { terminal_type = Named })
terminal_send_type t Named = says (type_is (name_of t.device)) (record t { terminal_type = Named })

-- SEND DEVICE-TYPE, with TN3270E on, until a device was granted: DEVICE-TYPE REQUEST and the device's name
abbrev pub terminal_send_device : TermCore → TerminalPhase → Row TermCore
terminal_send_device t Enhanced = says (request_device (name_of t.device)) (record t { phase = Device })
terminal_send_device t Device = says (request_device (name_of t.device)) (record t { phase = Device })
terminal_send_device t _ = Err BadSubnegotiation

-- DEVICE-TYPE IS, after a request: the name is ours, with CONNECT or nothing after it: FUNCTIONS REQUEST
abbrev pub named_device : TermCore → List ℕ → Row TermCore
named_device t name =
    if str_eq_ignore_ascii_case name (name_of t.device)
    then says (request_functions t.responses) (record t { phase = Functions t.responses })
    else Err BadSubnegotiation

abbrev pub joined_device : TermCore → List ℕ → Joined → Row TermCore
joined_device t name alone = named_device t name
joined_device t name associate = Err BadSubnegotiation
joined_device t name (connect resource) = named_device t name

abbrev pub terminal_device : TermCore → List ℕ → Joined → TerminalPhase → Row TermCore
terminal_device t name joined Device = joined_device t name joined
terminal_device t name joined _ = Err BadSubnegotiation

-- DEVICE-TYPE REJECT REASON, after a request
abbrev pub terminal_reject : ℕ → TerminalPhase → Row TermCore
terminal_reject reason Device = Err (Rejected reason)
terminal_reject reason _ = Err BadSubnegotiation

-- FUNCTIONS IS: the set that was asked for makes the session ready
abbrev pub terminal_functions : TermCore → FunctionList → TerminalPhase → Row TermCore
terminal_functions t list (Functions responses) =
    if is_set list responses then says [] (record t { phase = Ready responses }) else Err WrongList
terminal_functions t list _ = Err BadSubnegotiation

-- FUNCTIONS REQUEST: what is supported is granted, and makes the session ready; else its supported part is asked for
abbrev pub terminal_functions_request : TermCore → FunctionList → TerminalPhase → Row TermCore
terminal_functions_request t list (Functions responses) =
    if is_within list t.responses
    then says (functions_are list.responses) (record t { phase = Ready list.responses })
    else says (request_functions (list.responses && t.responses)) (record t { phase = Functions (list.responses && t.responses) })
terminal_functions_request t list _ = Err BadSubnegotiation

-- The table: what a terminal does at what it hears. A record changes nothing here; whether it is taken is `told_at`'s matter.
abbrev pub terminal_row : TermCore → Heard → Row TermCore
terminal_row t hears_record = stays t
terminal_row t (hears_verb Do option) = terminal_do t option
terminal_row t (hears_verb Will option) = terminal_will t option
terminal_row t (hears_verb Dont option) = terminal_dont t option
terminal_row t (hears_verb Wont option) = terminal_wont t option
terminal_row t hears_send_type = terminal_send_type t t.terminal_type
terminal_row t hears_send_device = terminal_send_device t t.phase
terminal_row t (hears_device naming) = terminal_device t naming.name naming.joined t.phase
terminal_row t (hears_device_reject reason) = terminal_reject reason t.phase
terminal_row t (hears_functions list) = terminal_functions t list t.phase
terminal_row t (hears_functions_request list) = terminal_functions_request t list t.phase
terminal_row t (hears_type name) = Err BadSubnegotiation
terminal_row t (hears_device_request naming) = Err BadSubnegotiation
terminal_row t hears_bad = Err BadSubnegotiation
terminal_row t hears_nothing = stays t
