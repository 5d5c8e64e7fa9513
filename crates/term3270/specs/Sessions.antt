-- What `serve` and `attach` print from their inputs on, whatever the net does.
use Rattle.std.specs.Prelude.{◌≡◌, ◌⊎◌, ℕ, List, map, None, Result, Ok, Err}
use Rattle.cli_commands.specs.declared.fault.Fault.{Fault}
use Rattle.cli_commands.specs.declared.status.Status.{Status}
use Rattle.cli_commands.specs.declared.status.Status.TheVariants.{BadInput}
use Rattle.cli_commands.specs.Fault.{fault_line}
use Rattle.cli_commands.specs.Keys.{keys_in}
use Rattle.cli_commands.specs.Printed.{printed}
use Rattle.cli_commands.specs.Streams.{IsWantOrFailure, Prints}
use Rattle.cli_characters.specs.Strokes.{typed_in}
use Rattle.tn_cores.specs.declared.device.Device.{Device}
use Rattle.tn_session.specs.Strikes.{Strike, by_key, by_stroke}
use Rattle.tn_session.specs.Wire.{WireState, fresh}
use Rattle.cli_sessions.specs.Attach.{Attaches}
use Rattle.cli_sessions.specs.Tolerant.{AttachesTolerant}
use Rattle.cli_sessions.specs.Prepare.{Prepared, ready, stops}
use Rattle.cli_sessions.specs.Printing.{Printing}
use Rattle.cli_sessions.specs.Serve.{ServesAnew}
use Rattle.cli_words.specs.declared.asked.KeyLines.{KeyLines}
use Rattle.cli_words.specs.declared.asked.KeyLines.TheVariants.{Keys, Strokes}

-- nothing was written, and the status is that of a failure
abbrev pub HasFailed : Printing → Printing → Status → Type 0
HasFailed old new status = IsWantOrFailure status × (new.written ≡ old.written)

-- a session over a socket, from its beginning
abbrev pub AttachesSocket : Device → List Strike → Printing → Printing → Status → Type 0
AttachesSocket device keys old new status = (ended : WireState) × Attaches device keys (fresh None None) ended old new status

-- the first fault of the inputs, or what stands against the screen; else its terminals, unless the port can't be bound
abbrev pub ServesPrepared : ℕ → Printing → Printing → Status → Result Prepared Fault → Type 0
ServesPrepared count old new status (Err fault) = Prints old.written new.written status (printed (fault_line fault) BadInput)
ServesPrepared count old new status (Ok (stops answer)) = Prints old.written new.written status answer
ServesPrepared count old new status (Ok (ready layout records)) = ServesAnew layout records count old new status ⊎ HasFailed old new status

-- the same for many terminals at once, of which each is told as the server goes on
abbrev pub ServesManyPrepared : Printing → Printing → Status → Result Prepared Fault → Type 0
ServesManyPrepared old new status (Err fault) = Prints old.written new.written status (printed (fault_line fault) BadInput)
ServesManyPrepared old new status (Ok (stops answer)) = Prints old.written new.written status answer
ServesManyPrepared old new status (Ok (ready layout records)) = Unit {0}

-- the same of a tolerant terminal, of which so many answers are expected
abbrev pub AttachesTolerantly : Device → ℕ → List Strike → Printing → Printing → Status → Type 0
AttachesTolerantly device expected keys old new status =
    (ended : WireState) × AttachesTolerant device keys expected (fresh None None) ended old new status

-- a session with these keys, over a socket
abbrev pub Attached : Type 1
Attached = List Strike → Printing → Printing → Status → Type 0

-- the first fault of the keys; else the session, unless the host can't be reached
abbrev pub AttachesNamed : {K : Type 0} → (K → Strike) → Attached → Printing → Printing → Status → Result (List K) Fault → Type 0
AttachesNamed strike Session old new status (Err fault) = Prints old.written new.written status (printed (fault_line fault) BadInput)
AttachesNamed strike Session old new status (Ok keys) = Session (map strike keys) old new status ⊎ HasFailed old new status

-- the keys of lines are pressed, or their strokes struck
abbrev pub AttachesLines : KeyLines → Attached → Printing → Printing → Status → List ℕ → Type 0
AttachesLines Keys Session old new status lines = AttachesNamed by_key Session old new status (keys_in lines)
AttachesLines Strokes Session old new status lines = AttachesNamed by_stroke Session old new status (typed_in lines)
