-- The host's end of a session: what it does at each event.
use Rattle.std.specs.Prelude.{ℕ, Bool, true, false, ◌&&◌, ◌||◌, nat_le, bytes_eq, if◌then◌else◌, List, [], length, Err, Option, Some, None}
use Rattle.tn_wire.specs.declared.codes.Verb.TheVariants.{Will, Wont, Do, Dont}
use Rattle.tn_wire.specs.Telnet.{Token}
use Rattle.tn_cores.specs.declared.option.TelnetOption.{TelnetOption}
use Rattle.tn_cores.specs.declared.option.TelnetOption.TheVariants.{Binary, TerminalType, EndOfRecord, Tn3270e, Other}
use Rattle.tn_cores.specs.declared.option.Reason.TheVariants.{InvalidName, InvalidDeviceType, UnsupportedRequest}
use Rattle.tn_cores.specs.declared.heard.FunctionList.{FunctionList}
use Rattle.tn_cores.specs.declared.device.Device.{Device as DeviceValue}
use Rattle.tn_cores.specs.declared.device.ScreenModel.TheVariants.{Two, Three, Four, Five}
use Rattle.tn_cores.specs.declared.session.Agreed.{Agreed}
use Rattle.tn_cores.specs.declared.session.SessionFault.TheVariants.{WrongList, BadSubnegotiation, OptionRefused, NoDevice}
use Rattle.tn_cores.specs.declared.host.HostCore.{HostCore}
use Rattle.tn_cores.specs.declared.host.HostPhase.{HostPhase}
use Rattle.tn_cores.specs.declared.host.HostPhase.TheVariants.{AskedEnhanced, Device, Functions, Ready, AskedType, AskedName, Options}
use Rattle.ds_codec.specs.Geometry.{Sizes}
use Rattle.arrayvec.specs.ArrayVec.{ArrayVec}
use Rattle.tn_cores.specs.Devices.{fits, fitting}
use Rattle.tn_cores.specs.Heard.{Heard, Joined, alone, associate, connect, hears_record, hears_verb, hears_send_type, hears_type, hears_send_device, hears_device_request, hears_device, hears_device_reject, hears_functions_request, hears_functions, hears_bad, hears_nothing}
use Rattle.tn_cores.specs.Rows.{Row, neither, says, stays, once, ours_on, theirs_on, are_both, unless_on, is_set, is_within}
use Rattle.tn_cores.specs.Replies.{will, wont, do_, dont, send_type, send_device, resource_name, device_is, reject_device, request_functions, functions_are, offers}

-- a model has both of a layout's sizes
abbrev pub any_fits : Sizes → Bool
any_fits sizes = fits sizes Two || (fits sizes Three || (fits sizes Four || fits sizes Five))

-- a host at the beginning of a session; `enhanced` says whether it asks for TN3270E
abbrev pub new_host : Sizes → Bool → Bool → HostCore
new_host sizes enhanced responses = record {
  geometry = sizes;
  responses = responses;
  binary = neither;
  end_of_record = neither;
  phase = if enhanced then AskedEnhanced else AskedType;
}

-- Classic: the device fits, and BINARY and END-OF-RECORD are in force on both sides.
abbrev pub host_agreed_in : HostCore → HostPhase → Option Agreed
host_agreed_in h (Ready device responses) = Some (record { enhanced = true; device = device; responses = responses })
host_agreed_in h (Options device) =
    if are_both h.binary && are_both h.end_of_record then Some (record { enhanced = false; device = device; responses = false }) else None
host_agreed_in h _ = None

-- what a host holds once it is ready
abbrev pub host_agreed : HostCore → Option Agreed
host_agreed h = host_agreed_in h h.phase

-- what a host says first: DO TN3270E, or DO TERMINAL-TYPE for a classic session; nothing once a session is under way
abbrev pub opening_in : HostPhase → List Token
opening_in AskedEnhanced = do_ Tn3270e
opening_in AskedType = do_ TerminalType
opening_in _ = []

abbrev pub opening : HostCore → List Token
opening h = opening_in h.phase

-- WILL TN3270E, asked for: SEND DEVICE-TYPE. Once agreed nothing; else DONT
abbrev pub will_enhanced : HostCore → HostPhase → Row HostCore
will_enhanced h AskedEnhanced = says send_device (record h { phase = Device })
will_enhanced h Device = stays h
will_enhanced h (Functions device set) = stays h
will_enhanced h (Ready device responses) = stays h
will_enhanced h AskedType = says (dont Tn3270e) h
will_enhanced h (AskedName last) = says (dont Tn3270e) h
will_enhanced h (Options device) = says (dont Tn3270e) h

-- WILL TERMINAL-TYPE, asked for: TERMINAL-TYPE SEND. Once agreed nothing; else DONT
abbrev pub will_type : HostCore → HostPhase → Row HostCore
will_type h AskedEnhanced = says (dont TerminalType) h
will_type h Device = says (dont TerminalType) h
will_type h (Functions device set) = says (dont TerminalType) h
will_type h (Ready device responses) = says (dont TerminalType) h
will_type h AskedType = says send_type (record h { phase = AskedName None })
will_type h (AskedName last) = stays h
will_type h (Options device) = stays h

-- in the phase Options DO and WILL of BINARY and END-OF-RECORD were said already
abbrev pub is_offered : HostPhase → Bool
is_offered (Options device) = true
is_offered _ = false

abbrev pub unless_offered : HostPhase → List Token → List Token
unless_offered phase reply = if is_offered phase then [] else reply

-- WILL BINARY, END-OF-RECORD: if not agreed, agreed and DO; else nothing. WILL of another option: DONT
abbrev pub host_will : HostCore → TelnetOption → Row HostCore
host_will h Binary = once h.binary.theirs (unless_offered h.phase (do_ Binary)) h (record h { binary = theirs_on h.binary })
host_will h TerminalType = will_type h h.phase
host_will h EndOfRecord =
    once h.end_of_record.theirs (unless_offered h.phase (do_ EndOfRecord)) h (record h { end_of_record = theirs_on h.end_of_record })
host_will h Tn3270e = will_enhanced h h.phase
host_will h (Other code) = says (dont (Other code)) h

-- DO BINARY, END-OF-RECORD: if not agreed, agreed and WILL; else nothing. DO of another option: WONT
abbrev pub host_do : HostCore → TelnetOption → Row HostCore
host_do h Binary = once h.binary.ours (unless_offered h.phase (will Binary)) h (record h { binary = ours_on h.binary })
host_do h TerminalType = says (wont TerminalType) h
host_do h EndOfRecord =
    once h.end_of_record.ours (unless_offered h.phase (will EndOfRecord)) h (record h { end_of_record = ours_on h.end_of_record })
host_do h Tn3270e = says (wont Tn3270e) h
host_do h (Other code) = says (wont (Other code)) h

-- WONT TN3270E, asked for: DO TERMINAL-TYPE, for a classic session. Once agreed it is refused; else nothing
abbrev pub wont_enhanced : HostCore → HostPhase → Row HostCore
wont_enhanced h AskedEnhanced = says (do_ TerminalType) (record h { phase = AskedType })
wont_enhanced h Device = Err (OptionRefused 40)
wont_enhanced h (Functions device set) = Err (OptionRefused 40)
wont_enhanced h (Ready device responses) = Err (OptionRefused 40)
wont_enhanced h _ = stays h

-- WONT TERMINAL-TYPE, asked for, is refused; else nothing
abbrev pub wont_type : HostCore → HostPhase → Row HostCore
wont_type h AskedType = Err (OptionRefused 24)
wont_type h _ = stays h

-- an option is needed in the phase Options, and once it is agreed
abbrev pub is_needed : HostPhase → Bool → Bool
is_needed phase agreed = is_offered phase || agreed

-- WONT and DONT of BINARY, END-OF-RECORD in the phase Options, or once agreed, are refused; other ones are nothing
abbrev pub host_wont : HostCore → TelnetOption → Row HostCore
host_wont h Binary = unless_on (is_needed h.phase h.binary.theirs) Binary h
host_wont h TerminalType = wont_type h h.phase
host_wont h EndOfRecord = unless_on (is_needed h.phase h.end_of_record.theirs) EndOfRecord h
host_wont h Tn3270e = wont_enhanced h h.phase
host_wont h (Other code) = stays h

abbrev pub host_dont : HostCore → TelnetOption → Row HostCore
host_dont h Binary = unless_on (is_needed h.phase h.binary.ours) Binary h
host_dont h TerminalType = stays h
host_dont h EndOfRecord = unless_on (is_needed h.phase h.end_of_record.ours) EndOfRecord h
host_dont h Tn3270e = stays h
host_dont h (Other code) = stays h

-- the device is granted, as it was named, with the one resource
abbrev pub grants : HostCore → List ℕ → DeviceValue → Row HostCore
grants h name device = says (device_is name) (record h { phase = Functions device None })

-- DEVICE-TYPE REQUEST of a device that fits: with ASSOCIATE, or with CONNECT and another resource, it is rejected
abbrev pub request_joined : HostCore → List ℕ → DeviceValue → Joined → Row HostCore
request_joined h name device alone = grants h name device
request_joined h name device associate = says (reject_device UnsupportedRequest) h
request_joined h name device (connect resource) =
    if bytes_eq resource resource_name then grants h name device else says (reject_device InvalidName) h

-- of a device that does not fit: it is rejected, and another may be asked for
abbrev pub request_fitting : HostCore → List ℕ → Joined → Option DeviceValue → Row HostCore
request_fitting h name joined None = says (reject_device InvalidDeviceType) h
request_fitting h name joined (Some device) = request_joined h name device joined

abbrev pub host_device_request : HostCore → List ℕ → Joined → HostPhase → Row HostCore
host_device_request h name joined Device = request_fitting h name joined (fitting h.geometry name)
host_device_request h name joined _ = Err BadSubnegotiation

-- FUNCTIONS REQUEST: what is supported is granted, and makes the session ready; else its supported part is asked for
abbrev pub host_functions_request : HostCore → FunctionList → HostPhase → Row HostCore
host_functions_request h list (Functions device set) =
    if is_within list h.responses
    then says (functions_are list.responses) (record h { phase = Ready device list.responses })
    else says (request_functions (list.responses && h.responses)) (record h { phase = Functions device (Some (list.responses && h.responses)) })
host_functions_request h list _ = Err BadSubnegotiation

-- FUNCTIONS IS: the set that was asked for makes the session ready
abbrev pub asked_functions : HostCore → FunctionList → DeviceValue → Option Bool → Row HostCore
asked_functions h list device None = Err BadSubnegotiation
asked_functions h list device (Some set) =
    if is_set list set then says [] (record h { phase = Ready device set }) else Err WrongList

abbrev pub host_functions : HostCore → FunctionList → HostPhase → Row HostCore
host_functions h list (Functions device set) = asked_functions h list device set
host_functions h list _ = Err BadSubnegotiation

-- the name that came before is this one
abbrev pub is_last : Option (ArrayVec ℕ) → List ℕ → Bool
is_last None name = false
is_last (Some last) name = bytes_eq last.items name

-- TERMINAL-TYPE IS, asked for, and a name of at most 40 bytes. A device that fits: the offers that are not yet agreed.
-- Another: the next name is asked for; where the same comes twice, the terminal has no more.
abbrev pub type_fitting : HostCore → List ℕ → Option (ArrayVec ℕ) → Option DeviceValue → Row HostCore
type_fitting h name last (Some device) = says (offers h.end_of_record h.binary) (record h { phase = Options device })
type_fitting h name last None =
    if is_last last name then Err NoDevice else says send_type (record h { phase = AskedName (Some (record { items = name })) })

abbrev pub host_type : HostCore → List ℕ → HostPhase → Row HostCore
host_type h name (AskedName last) =
    if nat_le (length name) 40 then type_fitting h name last (fitting h.geometry name) else Err BadSubnegotiation
host_type h name _ = Err BadSubnegotiation

-- The table: what a host does at what it hears. A record changes nothing here; whether it is taken is `told_at`'s matter.
abbrev pub host_row : HostCore → Heard → Row HostCore
host_row h hears_record = stays h
host_row h (hears_verb Will option) = host_will h option
host_row h (hears_verb Wont option) = host_wont h option
host_row h (hears_verb Do option) = host_do h option
host_row h (hears_verb Dont option) = host_dont h option
host_row h (hears_device_request naming) = host_device_request h naming.name naming.joined h.phase
host_row h (hears_functions_request list) = host_functions_request h list h.phase
host_row h (hears_functions list) = host_functions h list h.phase
host_row h (hears_type name) = host_type h name h.phase
host_row h hears_send_type = Err BadSubnegotiation
host_row h hears_send_device = Err BadSubnegotiation
host_row h (hears_device naming) = Err BadSubnegotiation
host_row h (hears_device_reject reason) = Err BadSubnegotiation
host_row h hears_bad = Err BadSubnegotiation
host_row h hears_nothing = stays h
