-- A core's refusal, as the cause of a run's fault.
use Rattle.tn_cores.specs.declared.session.SessionFault.{SessionFault}
use Rattle.tn_cores.specs.declared.session.SessionFault.TheVariants.{Rejected, WrongList, BadSubnegotiation, OptionRefused, NotReady, BadResponse, TooManyReads, LineFault, NoDevice, Closed, TerminalRefused}
use Rattle.tn_cores.proofs.ReplyLaws.{IsOfEvent}
use Rattle.tn_session.specs.Ran.{IsOfEvents, session_cause}

pub of_event : (why : SessionFault) → IsOfEvent why → IsOfEvents (session_cause why)
of_event (Rejected reason) is = tt
of_event WrongList is = tt
of_event BadSubnegotiation is = tt
of_event (OptionRefused option) is = tt
of_event NotReady is = tt
of_event BadResponse is = tt
of_event TooManyReads is = absurd is
of_event LineFault is = absurd is
of_event NoDevice is = tt
of_event Closed is = absurd is
of_event (TerminalRefused reason) is = tt
