-- A terminal's and a host's core, and the events on their way between them.
use Rattle.std.specs.Prelude.{ℕ, ◌≡◌, ◌≤◌, ◌+◌, ◌*◌, ◌⊎◌, Bool, List, [], ◌∷◌, ◌++◌, length, Contains, Option, Some, None, Result, Ok, Err}
use Rattle.std.specs.Option.{option_and_then}
use Rattle.ds_codec.specs.Geometry.{Sizes}
use Rattle.tn_wire.specs.Telnet.{Token}
use Rattle.tn_wire.specs.Stream.{Told as Event, told_record, told_verb, told_sub, told_passed, events_of, Tells}
use Rattle.tn_cores.specs.declared.device.Device.{Device}
use Rattle.tn_cores.specs.declared.session.Agreed.{Agreed}
use Rattle.tn_cores.specs.declared.session.SessionFault.{SessionFault}
use Rattle.tn_cores.specs.declared.session.SessionFault.TheVariants.{Rejected, NoDevice, OptionRefused}
use Rattle.tn_cores.specs.declared.terminal.TermCore.{TermCore}
use Rattle.tn_cores.specs.declared.tolerant.TolerantCore.{TolerantCore}
use Rattle.tn_cores.specs.declared.host.HostCore.{HostCore}
use Rattle.tn_cores.specs.Terminal.{new_terminal, terminal_agreed}
use Rattle.tn_cores.specs.Host.{new_host, opening, host_agreed}
use Rattle.tn_cores.specs.Replies.{bytes_of}
use Rattle.tn_cores.specs.Tolerant.{new_tolerant, tolerant_agreed, tolerant_step}
use Rattle.tn_cores.specs.Steps.{Stepped, terminal_step, host_step}

-- a terminal's core: how it is made, what it holds once it is ready, and what an event does to it
pub record TerminalKind (Terminal : Type 0) : Type 0 where
  pub made : Device → Bool → Bool → Terminal
  pub agreed : Terminal → Option Agreed
  pub step : Terminal → Event → Result (Stepped Terminal) SessionFault

abbrev pub strict : TerminalKind TermCore
strict = record { made = new_terminal; agreed = terminal_agreed; step = terminal_step }

abbrev pub tolerant : TerminalKind TolerantCore
tolerant = record { made = new_tolerant; agreed = tolerant_agreed; step = λ t event. Ok (tolerant_step t event) }

-- the cores, the events on their way to each, and the refusals that each has answered
pub record SessionPair (Terminal : Type 0) : Type 0 where
  pub terminal : Terminal
  pub host : HostCore
  pub to_terminal : List Event
  pub to_host : List Event
  pub terminal_refused : List SessionFault
  pub host_refused : List SessionFault

pub data End : Type 0 where
  at_terminal : End
  at_host : End

-- what two ends are made with; the sizes are those of the host's layout
pub record Ends : Type 0 where
  pub device : Device
  pub sizes : Sizes
  pub terminal_enhanced : Bool
  pub terminal_responses : Bool
  pub host_enhanced : Bool
  pub host_responses : Bool

abbrev pub host_in : Ends → HostCore
host_in ends = new_host ends.sizes ends.host_enhanced ends.host_responses

-- the host has begun
abbrev pub start : {T : Type 0} → TerminalKind T → Ends → SessionPair T
start kind ends = record {
  terminal = kind.made ends.device ends.terminal_enhanced ends.terminal_responses;
  host = host_in ends;
  to_terminal = events_of (opening (host_in ends));
  to_host = [];
  terminal_refused = [];
  host_refused = [];
}

-- a core that took an event says its reply to the other end, or has refused
abbrev pub terminal_took : {T : Type 0} → SessionPair T → Result (Stepped T) SessionFault → SessionPair T
terminal_took p (Ok step) = record p { terminal = step.core; to_host = p.to_host ++ events_of step.reply }
terminal_took p (Err why) = record p { terminal_refused = p.terminal_refused ++ why ∷ [] }

abbrev pub host_took : {T : Type 0} → SessionPair T → Result (Stepped HostCore) SessionFault → SessionPair T
host_took p (Ok step) = record p { host = step.core; to_terminal = p.to_terminal ++ events_of step.reply }
host_took p (Err why) = record p { host_refused = p.host_refused ++ why ∷ [] }

abbrev pub terminal_takes : {T : Type 0} → TerminalKind T → SessionPair T → List Event → Option (SessionPair T)
terminal_takes kind p [] = None
terminal_takes kind p (event ∷ rest) = Some (terminal_took (record p { to_terminal = rest }) (kind.step p.terminal event))

abbrev pub host_takes : {T : Type 0} → SessionPair T → List Event → Option (SessionPair T)
host_takes p [] = None
host_takes p (event ∷ rest) = Some (host_took (record p { to_host = rest }) (host_step p.host event))

-- the pair after this end took the first event on its way to it; none where there is no event
abbrev pub pair_step : {T : Type 0} → TerminalKind T → SessionPair T → End → Option (SessionPair T)
pair_step kind p at_terminal = terminal_takes kind p p.to_terminal
pair_step kind p at_host = host_takes p p.to_host

-- the pair after steps of these ends in turn
abbrev pub pair_after : {T : Type 0} → TerminalKind T → List End → SessionPair T → Option (SessionPair T)
pair_after kind [] p = Some p
pair_after kind (end ∷ ends) p = option_and_then (pair_after kind ends) (pair_step kind p end)

-- two ends made so can come to be this pair, by this many steps
abbrev pub Reaches : {T : Type 0} → TerminalKind T → Ends → List End → SessionPair T → Type 0
Reaches kind made steps p = pair_after kind steps (start kind made) ≡ Some p

-- if both cores are ready, they hold the same
abbrev pub ReadyAgree : {T : Type 0} → TerminalKind T → SessionPair T → Type 0
ReadyAgree kind p = (a b : Agreed) → kind.agreed p.terminal ≡ Some a → host_agreed p.host ≡ Some b → a ≡ b

-- both cores are ready
abbrev pub AreReady : {T : Type 0} → TerminalKind T → SessionPair T → Type 0
AreReady kind p = (agreed : Agreed) × (kind.agreed p.terminal ≡ Some agreed) × (host_agreed p.host ≡ Some agreed)

-- both cores are ready; or the terminal's device was rejected as one that does not fit, or the host found no device
abbrev pub IsSettled : SessionPair TermCore → Type 0
IsSettled p = AreReady strict p ⊎ (Contains p.terminal_refused (Rejected 4) ⊎ Contains p.host_refused NoDevice)

-- both cores are ready; or the host, which rejected the terminal's device, refused that it gave TN3270E up, or found no device
abbrev pub IsSettledTolerant : SessionPair TolerantCore → Type 0
IsSettledTolerant p = AreReady tolerant p ⊎ (Contains p.host_refused (OptionRefused 40) ⊎ Contains p.host_refused NoDevice)

abbrev pub PairsAgree : {T : Type 0} → TerminalKind T → Type 0
PairsAgree {T = T} kind = (made : Ends) (steps : List End) (p : SessionPair T) → Reaches kind made steps p → ReadyAgree kind p

abbrev pub PairsSettle : {T : Type 0} → TerminalKind T → (SessionPair T → Type 0) → Type 0
PairsSettle {T = T} kind Settled =
    (made : Ends) (steps : List End) (p : SessionPair T) → Reaches kind made steps p → p.to_terminal ≡ [] → p.to_host ≡ [] → Settled p

-- no pair takes more than 14 steps
abbrev pub PairsEnd : {T : Type 0} → TerminalKind T → Type 0
PairsEnd {T = T} kind = (made : Ends) (steps : List End) (p : SessionPair T) → Reaches kind made steps p → length steps ≤ 14

-- ---- bytes

-- the bytes of a reply tell its tokens' events, and leave nothing open
abbrev pub IsHeard : List Token → Type 0
IsHeard reply = Tells (bytes_of reply) (events_of reply) []

abbrev pub TerminalIsHeard : Type 0
TerminalIsHeard = (t : TermCore) (event : Event) (step : Stepped TermCore) → terminal_step t event ≡ Ok step → IsHeard step.reply

abbrev pub TolerantIsHeard : Type 0
TolerantIsHeard = (t : TolerantCore) (event : Event) → IsHeard (tolerant_step t event).reply

abbrev pub HostIsHeard : Type 0
HostIsHeard = (h : HostCore) (event : Event) (step : Stepped HostCore) → host_step h event ≡ Ok step → IsHeard step.reply

abbrev pub OpeningIsHeard : Type 0
OpeningIsHeard = (h : HostCore) → IsHeard (opening h)

-- ---- storms

-- the fewest bytes in which an event can come
abbrev pub fewest : Event → ℕ
fewest (told_record bytes) = length bytes + 2
fewest (told_verb verb option) = 3
fewest (told_sub option parameters) = length parameters + 5
fewest (told_passed byte) = 2

abbrev pub fewest_in : List Event → ℕ
fewest_in [] = 0
fewest_in (event ∷ events) = fewest event + fewest_in events

-- all that a tolerant terminal answers to events, one after the other
abbrev pub answered_to : TolerantCore → List Event → List ℕ
answered_to t [] = []
answered_to t (event ∷ events) = bytes_of (tolerant_step t event).reply ++ answered_to (tolerant_step t event).core events

-- whatever events come, however many: no more bytes are answered than came, but for 64 an event
abbrev pub StormsAreBounded : Type 0
StormsAreBounded = (t : TolerantCore) (events : List Event) → length (answered_to t events) ≤ fewest_in events + 64 * length events
