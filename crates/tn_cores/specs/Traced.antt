-- What a trace of both sides says of a session is what the session's ends hold.
use Rattle.std.specs.Prelude.{◌≡◌, Bool, true, false, List, [], ◌∷◌, Some, Ok}
use Rattle.ds_codec.specs.Geometry.{Sizes}
use Rattle.tn_wire.specs.Stream.{Told as Event, events_of}
use Rattle.tn_cores.specs.declared.device.Device.{Device}
use Rattle.tn_cores.specs.declared.session.Agreed.{Agreed}
use Rattle.tn_cores.specs.declared.terminal.TermCore.{TermCore}
use Rattle.tn_cores.specs.declared.host.HostCore.{HostCore}
use Rattle.tn_cores.specs.Terminal.{new_terminal, terminal_agreed}
use Rattle.tn_cores.specs.Host.{new_host, opening, host_agreed}
use Rattle.tn_cores.specs.Steps.{Stepped, terminal_step, host_step}
use Rattle.tn_traces.specs.declared.negotiated.Negotiated.{Negotiated}
use Rattle.tn_traces.specs.declared.negotiated.Negotiated.TheVariants.{Classic, Named, Enhanced}
use Rattle.tn_traces.specs.declared.negotiated.Sender.TheVariants.{Host, Terminal}
use Rattle.tn_traces.specs.Negotiated.{negotiated_after, negotiated_from}

abbrev pub is_enhanced : Negotiated → Bool
is_enhanced Classic = false
is_enhanced Named = false
is_enhanced Enhanced = true

-- The terminal takes these events of the host in turn and refuses none. Behind each the trace has what the terminal says to
-- it. So much is agreed before and after, by the trace.
abbrev pub TerminalTakes : TermCore → Negotiated → List Event → TermCore → Negotiated → Type 0
TerminalTakes t now [] last after = (last ≡ t) × (after ≡ now)
TerminalTakes t now (event ∷ events) last after =
    (step : Stepped TermCore) × (terminal_step t event ≡ Ok step)
    × TerminalTakes step.core (negotiated_from Terminal (negotiated_after Host now event) (events_of step.reply)) events last after

-- the same of the host
abbrev pub HostTakes : HostCore → Negotiated → List Event → HostCore → Negotiated → Type 0
HostTakes h now [] last after = (last ≡ h) × (after ≡ now)
HostTakes h now (event ∷ events) last after =
    (step : Stepped HostCore) × (host_step h event ≡ Ok step)
    × HostTakes step.core (negotiated_from Host (negotiated_after Terminal now event) (events_of step.reply)) events last after

-- once a terminal is ready, the trace says whether its session is enhanced
abbrev pub TerminalsAreTold : Type 0
TerminalsAreTold =
    (device : Device) (enhanced responses : Bool) (events : List Event) (t : TermCore) (now : Negotiated) (agreed : Agreed)
    → TerminalTakes (new_terminal device enhanced responses) Classic events t now → terminal_agreed t ≡ Some agreed
    → is_enhanced now ≡ agreed.enhanced

-- and so it does once a host is, which begins by itself
abbrev pub HostsAreTold : Type 0
HostsAreTold =
    (sizes : Sizes) (enhanced responses : Bool) (events : List Event) (h : HostCore) (now : Negotiated) (agreed : Agreed)
    → HostTakes (new_host sizes enhanced responses) (negotiated_from Host Classic (events_of (opening (new_host sizes enhanced responses)))) events h now
    → host_agreed h ≡ Some agreed → is_enhanced now ≡ agreed.enhanced
