-- One step of a core: what it tells, what it writes, and what it is then.
use Rattle.std.specs.Prelude.{ℕ, ◌≡◌, List, [], Option, Some, None, Result, Ok, Err}
use Rattle.tn_wire.specs.Telnet.{Token}
use Rattle.tn_wire.specs.Stream.{Told as Event}
use Rattle.tn_cores.specs.declared.session.Agreed.{Agreed}
use Rattle.tn_cores.specs.declared.session.Told.{Told}
use Rattle.tn_cores.specs.declared.session.Told.TheVariants.{Nothing, Ready, Record}
use Rattle.tn_cores.specs.declared.session.SessionFault.{SessionFault}
use Rattle.tn_cores.specs.declared.session.SessionFault.TheVariants.{NotReady}
use Rattle.tn_cores.specs.declared.terminal.TermCore.{TermCore}
use Rattle.tn_cores.specs.declared.host.HostCore.{HostCore}
use Rattle.tn_cores.specs.Heard.{Heard, heard, hears_record}
use Rattle.tn_cores.specs.Rows.{Row}
use Rattle.tn_cores.specs.Replies.{bytes_of}
use Rattle.tn_cores.specs.Terminal.{terminal_row, terminal_agreed}
use Rattle.tn_cores.specs.Host.{host_row, host_agreed}

pub record Stepped (Core : Type 0) : Type 0 where
  pub told : Told
  pub reply : List Token
  pub core : Core

-- Ready is told once, by the event after which the core is
abbrev pub told_after : Option Agreed → Option Agreed → Told
told_after (Some agreed) after = Nothing
told_after None (Some agreed) = Ready agreed
told_after None None = Nothing

-- a record is told once ready, and refused before
abbrev pub record_step : {Core : Type 0} → Core → Option Agreed → Result (Stepped Core) SessionFault
record_step core None = Err NotReady
record_step core (Some agreed) = Ok (record { told = Record; reply = []; core = core })

abbrev pub row_step : {Core : Type 0} → (Core → Option Agreed) → Core → Row Core → Result (Stepped Core) SessionFault
row_step agreed core (Err why) = Err why
row_step agreed core (Ok row) = Ok (record { told = told_after (agreed core) (agreed row.1); reply = row.0; core = row.1 })

abbrev pub heard_step : {Core : Type 0} → (Core → Option Agreed) → (Core → Heard → Row Core) → Core → Heard → Result (Stepped Core) SessionFault
heard_step agreed rows core hears_record = record_step core (agreed core)
heard_step agreed rows core hears = row_step agreed core (rows core hears)

abbrev pub terminal_step : TermCore → Event → Result (Stepped TermCore) SessionFault
terminal_step core event = heard_step terminal_agreed terminal_row core (heard event)

abbrev pub host_step : HostCore → Event → Result (Stepped HostCore) SessionFault
host_step core event = heard_step host_agreed host_row core (heard event)

-- The call did this step: it told what the step tells, the core is what it leaves, and the reply's bytes were written. Or
-- it refused as the step does, the core is as before, and nothing was written.
abbrev pub Takes : {Core : Type 0} → Result (Stepped Core) SessionFault → Core → Result Told SessionFault → Core → List ℕ → Type 0
Takes (Ok step) old result new out = (result ≡ Ok step.told) × (new ≡ step.core) × (out ≡ bytes_of step.reply)
Takes (Err why) old result new out = (result ≡ Err why) × (new ≡ old) × (out ≡ [])
