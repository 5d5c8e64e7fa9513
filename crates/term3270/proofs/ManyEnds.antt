-- Commands that end before terminals are served.
use Rattle.std.proofs.Common.{ℕ, Result, Ok, Err}
use Rattle.cli_commands.specs.declared.fault.Fault.{Fault}
use Rattle.cli_commands.specs.declared.status.Status.{Status}
use Rattle.cli_sessions.specs.Prepare.{Prepared, ready, stops}
use Rattle.cli_sessions.specs.Printing.{Printing}
use Rattle.term3270.specs.Sessions.{ServesPrepared, ServesManyPrepared}

-- what is printed before a screen is served is the same
pub many_ends : (count : ℕ) (old new : Printing) (status : Status) (due : Result Prepared Fault) → ServesPrepared count old new status due → ServesManyPrepared old new status due
many_ends count old new status (Err fault) ends = ends
many_ends count old new status (Ok (stops answer)) ends = ends
many_ends count old new status (Ok (ready layout records)) ends = tt
