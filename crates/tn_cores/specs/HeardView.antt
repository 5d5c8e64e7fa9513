-- What code hears, as a value.
use Rattle.std.specs.Prelude.{ℕ, List}
use Rattle.tn_cores.specs.declared.heard.Heard.{Heard as Lent}
use Rattle.tn_cores.specs.declared.heard.Heard.TheVariants.{Record, Verb, SendType, TypeIs, SendDevice, DeviceRequest, DeviceIs, DeviceReject, FunctionsRequest, FunctionsAre, Bad, Nothing}
use Rattle.tn_cores.specs.declared.heard.Joined.{Joined as LentJoined}
use Rattle.tn_cores.specs.declared.heard.Joined.TheVariants.{Alone, Associate, Connect}
use Rattle.tn_cores.specs.Heard.{Heard, Joined, Naming, alone, associate, connect, hears_record, hears_verb, hears_send_type, hears_type, hears_send_device, hears_device_request, hears_device, hears_device_reject, hears_functions_request, hears_functions, hears_bad, hears_nothing}

abbrev pub joined_view : LentJoined → Joined
joined_view Alone = alone
joined_view Associate = associate
joined_view (Connect resource) = connect resource.now

abbrev pub naming_view : List ℕ → LentJoined → Naming
naming_view name joined = record { name = name; joined = joined_view joined }

abbrev pub heard_view : Lent → Heard
heard_view Record = hears_record
heard_view (Verb verb option) = hears_verb verb option
heard_view SendType = hears_send_type
heard_view (TypeIs name) = hears_type name.now
heard_view SendDevice = hears_send_device
heard_view (DeviceRequest name joined) = hears_device_request (naming_view name.now joined)
heard_view (DeviceIs name joined) = hears_device (naming_view name.now joined)
heard_view (DeviceReject reason) = hears_device_reject reason
heard_view (FunctionsRequest list) = hears_functions_request list
heard_view (FunctionsAre list) = hears_functions list
heard_view Bad = hears_bad
heard_view Nothing = hears_nothing
