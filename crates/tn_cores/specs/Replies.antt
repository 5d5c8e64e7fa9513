-- What a core says, as tokens of the stream (RFC 854, 855, 1091, 2355).
use Rattle.std.specs.Prelude.{ℕ, Bool, true, false, List, [], ◌∷◌, ◌++◌, codes}
use Rattle.std.specs.List.{flat_map}
use Rattle.tn_wire.specs.declared.codes.Verb.{Verb}
use Rattle.tn_wire.specs.Verbs.{verb_code}
use Rattle.tn_wire.specs.Telnet.{Token, command, subnegotiation, spelling}
use Rattle.tn_cores.specs.declared.option.TelnetOption.{TelnetOption}
use Rattle.tn_cores.specs.declared.option.TelnetOption.TheVariants.{Binary, EndOfRecord}
use Rattle.tn_cores.specs.declared.option.Reason.{Reason}
use Rattle.tn_cores.specs.declared.option.Sides.{Sides}
use Rattle.tn_cores.specs.Options.{option_code, reason_code}

-- a verb and its option
abbrev pub said : Verb → TelnetOption → List Token
said verb option = command (verb_code verb) (option_code option) ∷ []

abbrev pub will : TelnetOption → List Token
will option = command 251 (option_code option) ∷ []

abbrev pub wont : TelnetOption → List Token
wont option = command 252 (option_code option) ∷ []

abbrev pub do_ : TelnetOption → List Token
do_ option = command 253 (option_code option) ∷ []

abbrev pub dont : TelnetOption → List Token
dont option = command 254 (option_code option) ∷ []

-- TERMINAL-TYPE SEND, TERMINAL-TYPE IS name
abbrev pub send_type : List Token
send_type = subnegotiation 24 (1 ∷ []) ∷ []

abbrev pub type_is : List ℕ → List Token
type_is name = subnegotiation 24 (0 ∷ name) ∷ []

-- SEND DEVICE-TYPE
abbrev pub send_device : List Token
send_device = subnegotiation 40 (8 ∷ 2 ∷ []) ∷ []

-- DEVICE-TYPE REQUEST name
abbrev pub request_device : List ℕ → List Token
request_device name = subnegotiation 40 (2 ∷ 7 ∷ name) ∷ []

-- the one resource that a host has: TERM3270
abbrev pub resource_name : List ℕ
resource_name = codes "TERM3270"

-- DEVICE-TYPE IS name CONNECT TERM3270
abbrev pub device_is : List ℕ → List Token
device_is name = subnegotiation 40 (2 ∷ 4 ∷ (name ++ 1 ∷ resource_name)) ∷ []

-- DEVICE-TYPE REJECT REASON
abbrev pub reject_device : Reason → List Token
reject_device reason = subnegotiation 40 (2 ∷ 6 ∷ 5 ∷ reason_code reason ∷ []) ∷ []

-- a set of functions as a list: RESPONSES (02), or nothing
abbrev pub function_list : Bool → List ℕ
function_list true = 2 ∷ []
function_list false = []

-- FUNCTIONS REQUEST and FUNCTIONS IS
abbrev pub request_functions : Bool → List Token
request_functions responses = subnegotiation 40 (3 ∷ 7 ∷ function_list responses) ∷ []

abbrev pub functions_are : Bool → List Token
functions_are responses = subnegotiation 40 (3 ∷ 4 ∷ function_list responses) ∷ []

-- said unless it is agreed already
abbrev pub unless : Bool → List Token → List Token
unless true reply = []
unless false reply = reply

-- DO and WILL of END-OF-RECORD, DO and WILL of BINARY, those that are not yet agreed
abbrev pub offers : Sides → Sides → List Token
offers end_of_record binary =
    unless end_of_record.theirs (do_ EndOfRecord)
    ++ (unless end_of_record.ours (will EndOfRecord)
    ++ (unless binary.theirs (do_ Binary) ++ unless binary.ours (will Binary)))

-- the bytes of a reply
abbrev pub bytes_of : List Token → List ℕ
bytes_of reply = flat_map spelling reply
