-- What an action asks for, as the program holds it.
use Rattle.std.specs.Prelude.{map, Result, Ok, Err}
use Rattle.script_keys.specs.declared.action.Action as found
use Rattle.script_keys.specs.declared.action.Action.TheVariants as variants
use Rattle.script_keys.specs.declared.fault.Fault as at_fault
use Rattle.script_keys.specs.Actions.{Action, keys, connect, disconnect, quit, other}
use Rattle.script_keys.specs.Faults.{Fault}
use Rattle.script_keys.specs.FaultSeen.{fault_seen}

abbrev pub action_seen : found.Action → Action
action_seen (variants.Keys it) = keys it
action_seen (variants.Connect host) = connect host.now
action_seen variants.Disconnect = disconnect
action_seen variants.Quit = quit
action_seen (variants.Other name arguments) = other name (map (λ argument. argument.items) arguments.now)

abbrev pub read_seen : Result found.Action at_fault.Fault → Result Action Fault
read_seen (Ok it) = Ok (action_seen it)
read_seen (Err why) = Err (fault_seen why)
