-- The tolerant terminal: what it does at each event. It refuses none, and where it does what the other does, that row is cited.
use Rattle.std.specs.Prelude.{ℕ, ◌==◌, Bool, true, false, ◌&&◌, ◌||◌, if◌then◌else◌, List, [], Option, Some, None, is_some, Result, Ok, Err}
use Rattle.tn_wire.specs.declared.codes.Verb.TheVariants.{Will, Wont, Do, Dont}
use Rattle.tn_wire.specs.Telnet.{Token}
use Rattle.tn_wire.specs.Stream.{Told as Event}
use Rattle.tn_cores.specs.declared.option.Sides.{Sides}
use Rattle.tn_cores.specs.declared.option.TelnetOption.{TelnetOption}
use Rattle.tn_cores.specs.declared.option.TelnetOption.TheVariants.{Binary, TerminalType, EndOfRecord, Tn3270e, Other}
use Rattle.tn_cores.specs.declared.heard.FunctionList.{FunctionList}
use Rattle.tn_cores.specs.declared.device.Device.{Device as DeviceValue}
use Rattle.tn_cores.specs.declared.session.Agreed.{Agreed}
use Rattle.tn_cores.specs.declared.session.Told.{Told}
use Rattle.tn_cores.specs.declared.session.Told.TheVariants.{Nothing, Record}
use Rattle.tn_cores.specs.declared.session.SessionFault.{SessionFault}
use Rattle.tn_cores.specs.declared.terminal.TermCore.{TermCore}
use Rattle.tn_cores.specs.declared.terminal.TypeState.TheVariants.{Off}
use Rattle.tn_cores.specs.declared.terminal.TerminalPhase.{TerminalPhase}
use Rattle.tn_cores.specs.declared.terminal.TerminalPhase.TheVariants.{Classic, Opening, Enhanced, Device, Functions, Ready}
use Rattle.tn_cores.specs.declared.tolerant.TolerantCore.{TolerantCore}
use Rattle.tn_cores.specs.Devices.{name_of, device_of}
use Rattle.tn_cores.specs.Heard.{Heard, heard, hears_record, hears_verb, hears_send_type, hears_type, hears_send_device, hears_device_request, hears_device, hears_device_reject, hears_functions_request, hears_functions, hears_bad, hears_nothing}
use Rattle.tn_cores.specs.Replies.{will, wont, dont, request_device, request_functions}
use Rattle.tn_cores.specs.Rows.{Row, are_both, is_within}
use Rattle.tn_cores.specs.Steps.{Stepped, told_after}
use Rattle.tn_cores.specs.Terminal.{new_terminal, terminal_do, terminal_will, do_enhanced, is_type_on, is_classic, terminal_send_type, terminal_functions_request}

abbrev pub new_tolerant : DeviceValue → Bool → Bool → TolerantCore
new_tolerant device enhanced responses = record { core = new_terminal device enhanced responses; settled = false }

-- what is said, and what the terminal's options and phase are then
abbrev pub Answer : Type 0
Answer = List Token × TermCore

abbrev pub answers : List Token → TermCore → Answer
answers reply core = (reply, core)

abbrev pub ignores : TermCore → Answer
ignores core = ([], core)

-- the other terminal's row; what it refuses is ignored
abbrev pub or_ignores : TermCore → Row TermCore → Answer
or_ignores t (Ok row) = row
or_ignores t (Err why) = ignores t

-- ---- options

abbrev pub ours_off : Sides → Sides
ours_off sides = record sides { ours = false }

abbrev pub theirs_off : Sides → Sides
theirs_off sides = record sides { theirs = false }

-- an option in force ends, and this is answered; else nothing (RFC 854)
abbrev pub ends_option : Bool → List Token → TermCore → TermCore → Answer
ends_option true reply next t = answers reply next
ends_option false reply next t = ignores t

-- DO TIMING-MARK is answered by WILL (RFC 860)
abbrev pub do_other : TermCore → ℕ → Answer
do_other t code = if code == 6 then answers (will (Other 6)) t else answers (wont (Other code)) t

-- once it is ready without TN3270E, this is refused
abbrev pub tolerant_do : Bool → TermCore → TelnetOption → Answer
tolerant_do settled t Binary = or_ignores t (terminal_do t Binary)
tolerant_do settled t TerminalType = or_ignores t (terminal_do t TerminalType)
tolerant_do settled t EndOfRecord = or_ignores t (terminal_do t EndOfRecord)
tolerant_do true t Tn3270e = answers (wont Tn3270e) t
tolerant_do false t Tn3270e = or_ignores t (do_enhanced t t.phase)
tolerant_do settled t (Other code) = do_other t code

-- DONT TN3270E: where it is on, off and WONT, ready or not
abbrev pub tolerant_dont_enhanced : TermCore → TerminalPhase → Answer
tolerant_dont_enhanced t Classic = ignores t
tolerant_dont_enhanced t Opening = ignores t
tolerant_dont_enhanced t _ = answers (wont Tn3270e) (record t { phase = Opening })

abbrev pub tolerant_dont : TermCore → TelnetOption → Answer
tolerant_dont t Binary = ends_option t.binary.ours (wont Binary) (record t { binary = ours_off t.binary }) t
tolerant_dont t TerminalType = ends_option (is_type_on t.terminal_type) (wont TerminalType) (record t { terminal_type = Off }) t
tolerant_dont t EndOfRecord = ends_option t.end_of_record.ours (wont EndOfRecord) (record t { end_of_record = ours_off t.end_of_record }) t
tolerant_dont t Tn3270e = tolerant_dont_enhanced t t.phase
tolerant_dont t (Other code) = ignores t

abbrev pub tolerant_wont : TermCore → TelnetOption → Answer
tolerant_wont t Binary = ends_option t.binary.theirs (dont Binary) (record t { binary = theirs_off t.binary }) t
tolerant_wont t TerminalType = ignores t
tolerant_wont t EndOfRecord = ends_option t.end_of_record.theirs (dont EndOfRecord) (record t { end_of_record = theirs_off t.end_of_record }) t
tolerant_wont t Tn3270e = ignores t
tolerant_wont t (Other code) = ignores t

-- ---- devices and functions (RFC 2355, section 7)

-- SEND DEVICE-TYPE, with TN3270E on, also when a device was granted and when the session is ready
abbrev pub tolerant_send_device : TermCore → TerminalPhase → Answer
tolerant_send_device t Classic = ignores t
tolerant_send_device t Opening = ignores t
tolerant_send_device t _ = answers (request_device (name_of t.device)) (record t { phase = Device })

-- the device that was granted: one of a model from 2 to 5, else ours
abbrev pub granted : DeviceValue → Option DeviceValue → DeviceValue
granted ours (Some device) = device
granted ours None = ours

-- DEVICE-TYPE IS, after a request: whatever the name, and whatever follows it
abbrev pub tolerant_device : TermCore → List ℕ → TerminalPhase → Answer
tolerant_device t name Device =
    answers (request_functions t.responses) (record t { device = granted t.device (device_of name); phase = Functions t.responses })
tolerant_device t name _ = ignores t

-- TN3270E is given up, for good
abbrev pub gives_up : TermCore → Answer
gives_up t = answers (wont Tn3270e) (record t { phase = Classic })

-- DEVICE-TYPE REJECT, after a request
abbrev pub tolerant_reject : TermCore → TerminalPhase → Answer
tolerant_reject t Device = gives_up t
tolerant_reject t _ = ignores t

-- FUNCTIONS IS: a part of what was asked for is agreed; with more TN3270E is given up
abbrev pub tolerant_functions : TermCore → FunctionList → TerminalPhase → Answer
tolerant_functions t list (Functions responses) =
    if is_within list responses then answers [] (record t { phase = Ready list.responses }) else gives_up t
tolerant_functions t list _ = ignores t

-- FUNCTIONS REQUEST: as the other terminal, also when the session is ready
abbrev pub tolerant_functions_request : TermCore → FunctionList → TerminalPhase → Answer
tolerant_functions_request t list (Ready responses) = or_ignores t (terminal_functions_request t list (Functions responses))
tolerant_functions_request t list phase = or_ignores t (terminal_functions_request t list phase)

-- The table. Subnegotiations of another form, or that a host doesn't send, are ignored (RFC 855).
abbrev pub tolerant_row : Bool → TermCore → Heard → Answer
tolerant_row settled t hears_record = ignores t
tolerant_row settled t (hears_verb Do option) = tolerant_do settled t option
tolerant_row settled t (hears_verb Will option) = or_ignores t (terminal_will t option)
tolerant_row settled t (hears_verb Dont option) = tolerant_dont t option
tolerant_row settled t (hears_verb Wont option) = tolerant_wont t option
tolerant_row settled t hears_send_type = or_ignores t (terminal_send_type t t.terminal_type)
tolerant_row settled t hears_send_device = tolerant_send_device t t.phase
tolerant_row settled t (hears_device naming) = tolerant_device t naming.name t.phase
tolerant_row settled t (hears_device_reject reason) = tolerant_reject t t.phase
tolerant_row settled t (hears_functions list) = tolerant_functions t list t.phase
tolerant_row settled t (hears_functions_request list) = tolerant_functions_request t list t.phase
tolerant_row settled t (hears_type name) = ignores t
tolerant_row settled t (hears_device_request naming) = ignores t
tolerant_row settled t hears_bad = ignores t
tolerant_row settled t hears_nothing = ignores t

-- ---- steps

abbrev pub is_unnegotiated : TerminalPhase → Bool
is_unnegotiated Classic = true
is_unnegotiated Opening = true
is_unnegotiated _ = false

-- A session without TN3270E that was ready stays so where BINARY or the terminal's type ends: data goes on as it came.
abbrev pub settles : Bool → TermCore → TolerantCore
settles settled t = record { core = t; settled = settled || (is_classic t && is_unnegotiated t.phase) }

-- records end by END-OF-RECORD, and pass while it is in force on both sides
abbrev pub settled_agreed : Bool → TermCore → Option Agreed
settled_agreed settled t =
    if settled && are_both t.end_of_record then Some (record { enhanced = false; device = t.device; responses = false }) else None

abbrev pub agreed_at : Bool → TermCore → TerminalPhase → Option Agreed
agreed_at settled t Classic = settled_agreed settled t
agreed_at settled t Opening = settled_agreed settled t
agreed_at settled t (Ready responses) = Some (record { enhanced = true; device = t.device; responses = responses })
agreed_at settled t _ = None

-- what a tolerant terminal holds while records pass
abbrev pub tolerant_agreed : TolerantCore → Option Agreed
tolerant_agreed t = agreed_at t.settled t.core t.core.phase

-- a record is told while records pass, and ignored else
abbrev pub told_record_at : Option Agreed → Told
told_record_at (Some agreed) = Record
told_record_at None = Nothing

abbrev pub answered_by : TolerantCore → Answer → Stepped TolerantCore
answered_by t answer = record {
  told = told_after (tolerant_agreed t) (tolerant_agreed (settles t.settled answer.1));
  reply = answer.0;
  core = settles t.settled answer.1;
}

abbrev pub tolerant_hears : TolerantCore → Heard → Stepped TolerantCore
tolerant_hears t hears_record = record { told = told_record_at (tolerant_agreed t); reply = []; core = t }
tolerant_hears t hears = answered_by t (tolerant_row t.settled t.core hears)

abbrev pub tolerant_step : TolerantCore → Event → Stepped TolerantCore
tolerant_step t event = tolerant_hears t (heard event)
