-- The core of a terminal's session: the strict one, or the tolerant.
use Rattle.std.specs.Prelude.{Bool, true, false, Option, Result, Ok, Err}
use Rattle.tn_wire.specs.Stream.{Told as Event}
use Rattle.tn_cores.specs.declared.session.Agreed.{Agreed}
use Rattle.tn_cores.specs.declared.session.SessionFault.{SessionFault}
use Rattle.tn_cores.specs.Steps.{Stepped, terminal_step}
use Rattle.tn_cores.specs.Terminal.{terminal_agreed}
use Rattle.tn_cores.specs.Tolerant.{tolerant_step, tolerant_agreed}
use Rattle.tn_session.specs.declared.end_core.EndCore.{EndCore}
use Rattle.tn_session.specs.declared.end_core.EndCore.TheVariants.{Strict, Tolerant}

-- the same step, of a core that is wrapped
abbrev pub as_step : {A : Type 0} {B : Type 0} → (A → B) → Stepped A → Stepped B
as_step wrap step = record { told = step.told; reply = step.reply; core = wrap step.core }

abbrev pub as_stepped : {A : Type 0} {B : Type 0} → (A → B) → Result (Stepped A) SessionFault → Result (Stepped B) SessionFault
as_stepped wrap (Ok step) = Ok (as_step wrap step)
as_stepped wrap (Err why) = Err why

abbrev pub core_step : EndCore → Event → Result (Stepped EndCore) SessionFault
core_step (Strict core) event = as_stepped Strict (terminal_step core event)
core_step (Tolerant core) event = Ok (as_step Tolerant (tolerant_step core event))

abbrev pub core_agreed : EndCore → Option Agreed
core_agreed (Strict core) = terminal_agreed core
core_agreed (Tolerant core) = tolerant_agreed core

abbrev pub is_tolerant : EndCore → Bool
is_tolerant (Strict core) = false
is_tolerant (Tolerant core) = true
