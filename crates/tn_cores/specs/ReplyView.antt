-- What code says, as tokens of the stream.
use Rattle.std.specs.Prelude.{List, [], Result, Ok, Err}
use Rattle.tn_wire.specs.Telnet.{Token}
use Rattle.tn_cores.specs.declared.reply.Reply.{Reply}
use Rattle.tn_cores.specs.declared.reply.Reply.TheVariants.{Nothing, Verb, SendType, TypeIs, Offers, SendDevice, DeviceRequest, DeviceIs, DeviceReject, FunctionsRequest, FunctionsAre}
use Rattle.tn_cores.specs.declared.session.SessionFault.{SessionFault}
use Rattle.tn_cores.specs.Devices.{name_of}
use Rattle.tn_cores.specs.Replies.{said, send_type, type_is, send_device, request_device, device_is, reject_device, request_functions, functions_are, offers}
use Rattle.tn_cores.specs.Rows.{Row}
use Rattle.tn_cores.specs.declared.terminal.TermCore.{TermCore}
use Rattle.tn_cores.specs.Tolerant.{Answer}

abbrev pub tokens_of : Reply → List Token
tokens_of Nothing = []
tokens_of (Verb verb option) = said verb option
tokens_of SendType = send_type
tokens_of (TypeIs device) = type_is (name_of device)
tokens_of (Offers end_of_record binary) = offers end_of_record binary
tokens_of SendDevice = send_device
tokens_of (DeviceRequest device) = request_device (name_of device)
tokens_of (DeviceIs name) = device_is name.items
tokens_of (DeviceReject reason) = reject_device reason
tokens_of (FunctionsRequest responses) = request_functions responses
tokens_of (FunctionsAre responses) = functions_are responses

-- the row of a table that a call did: its reply, and the core after it
abbrev pub rowed : {Core : Type 0} → Result Reply SessionFault → Core → Row Core
rowed (Ok reply) core = Ok (tokens_of reply, core)
rowed (Err why) core = Err why

-- the same of a row that refuses nothing
abbrev pub answered : Reply → TermCore → Answer
answered reply core = (tokens_of reply, core)
