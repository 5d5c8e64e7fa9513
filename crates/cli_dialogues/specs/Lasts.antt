-- What ended a terminal that was led through screens.
use Rattle.std.specs.Prelude.{ℕ, Bool, true, false, List, [], Option, Some, None}
use Rattle.session_hub.specs.declared.seat.End.{End}
use Rattle.session_hub.specs.declared.seat.End.TheVariants.{Over, Closed, Broken, Idle, Slow, Flooded}
use Rattle.tn_cores.specs.declared.session.SessionFault.TheVariants as faults
use Rattle.tn_session.specs.declared.fault.RunFault.{RunFault}
use Rattle.tn_session.specs.declared.fault.RunFault.TheVariants.{Session, OutOfMemory}
use Rattle.cli_sessions.specs.Session.{fault_line}
use Rattle.cli_hosts.specs.declared.settling.Settled.{Settled}
use Rattle.cli_hosts.specs.declared.settling.Settled.TheVariants.{Answered, Failed, Starved}
use Rattle.cli_hosts.specs.Words.{limit_line, starved_line}
use Rattle.cli_dialogues.specs.declared.last.Last.{Last}
use Rattle.cli_dialogues.specs.declared.last.Last.TheVariants as lasts

-- its session went on
abbrev pub last_left : End → Last
last_left Over = lasts.Fault (Session faults.Closed)
last_left Closed = lasts.Fault (Session faults.Closed)
last_left Broken = lasts.Fault (Session faults.LineFault)
last_left Idle = lasts.Limit Idle
last_left Slow = lasts.Limit Slow
last_left Flooded = lasts.Limit Flooded

-- A key led to its end, and all that was due went out.
abbrev pub last_good : Bool → End → Last
last_good true Over = lasts.Done
last_good done end = last_left end

abbrev pub last_failed : RunFault → Last
last_failed OutOfMemory = lasts.Starved
last_failed why = lasts.Fault why

-- A fault of the session comes before what ended the terminal.
abbrev pub last_of : Option RunFault → Bool → End → Last
last_of (Some why) done end = last_failed why
last_of None done end = last_good done end

-- a good end has no line
abbrev pub last_line : ℕ → Last → List ℕ
last_line number lasts.Done = []
last_line number (lasts.Fault why) = fault_line number why
last_line number (lasts.Limit end) = limit_line number end
last_line number lasts.Starved = starved_line number

abbrev pub settled_by : Last → Settled
settled_by lasts.Done = Answered
settled_by (lasts.Fault why) = Failed
settled_by (lasts.Limit end) = Failed
settled_by lasts.Starved = Starved
