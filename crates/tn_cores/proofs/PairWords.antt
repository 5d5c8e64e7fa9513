-- The words in which the states of a pair are written out.
use Rattle.std.proofs.Common.{ℕ, ◌≡◌, ◌<◌, Bool, true, false, List, [], Option, Some, None, refl, if◌then◌else◌}
use Rattle.ds_codec.specs.Geometry.{Sizes}
use Rattle.tn_wire.specs.Stream.{Told as Event}
use Rattle.tn_cores.specs.declared.device.Device.{Device as DeviceValue}
use Rattle.tn_cores.specs.declared.option.Sides.{Sides}
use Rattle.tn_cores.specs.declared.session.SessionFault.{SessionFault}
use Rattle.tn_cores.specs.declared.terminal.TermCore.{TermCore}
use Rattle.tn_cores.specs.declared.terminal.TypeState.{TypeState}
use Rattle.tn_cores.specs.declared.terminal.TerminalPhase.{TerminalPhase}
use Rattle.tn_cores.specs.declared.terminal.TerminalPhase.TheVariants.{Classic, Opening}
use Rattle.tn_cores.specs.declared.host.HostCore.{HostCore}
use Rattle.tn_cores.specs.declared.host.HostPhase.{HostPhase}
use Rattle.tn_cores.specs.declared.tolerant.TolerantCore.{TolerantCore}
use Rattle.tn_cores.specs.Pair.{TerminalKind, SessionPair, ReadyAgree}

abbrev pub sides : Bool → Bool → Sides
sides ours theirs = record { ours = ours; theirs = theirs }

abbrev pub terminal_at : DeviceValue → Bool → TypeState → Sides → Sides → TerminalPhase → TermCore
terminal_at device responses terminal_type end_of_record binary phase = record {
  device = device;
  responses = responses;
  terminal_type = terminal_type;
  binary = binary;
  end_of_record = end_of_record;
  phase = phase;
}

abbrev pub host_at : Sizes → Bool → Sides → Sides → HostPhase → HostCore
host_at sizes responses end_of_record binary phase = record {
  geometry = sizes;
  responses = responses;
  binary = binary;
  end_of_record = end_of_record;
  phase = phase;
}

abbrev pub tolerant_at : TermCore → Bool → TolerantCore
tolerant_at core settled = record { core = core; settled = settled }

abbrev pub pair_at : {T : Type 0} → T → HostCore → List Event → List Event → List SessionFault → List SessionFault → SessionPair T
pair_at terminal host to_terminal to_host terminal_refused host_refused = record {
  terminal = terminal;
  host = host;
  to_terminal = to_terminal;
  to_host = to_host;
  terminal_refused = terminal_refused;
  host_refused = host_refused;
}

-- TN3270E is off at a terminal that takes it, and at one that doesn't
abbrev pub phase_of : Bool → TerminalPhase
phase_of enhanced = if enhanced then Opening else Classic

pub by_bool : {P : Type 0} (b : Bool) → (b ≡ true → P) → (b ≡ false → P) → P
by_bool true yes_case no_case = yes_case refl
by_bool false yes_case no_case = no_case refl

-- what a step of an end leads to: where it has an event, a stage of lower rank
abbrev pub Leads : {T : Type 0} (Stage : Type 0) → (Stage → SessionPair T) → (Stage → ℕ) → ℕ → Option (SessionPair T) → Type 0
Leads Stage state rank n None = Unit {0}
Leads Stage state rank n (Some p) = (t : Stage) × (p ≡ state t) × (rank t < n)

-- what holds of every pair that is reached
abbrev pub Holds : {T : Type 0} → TerminalKind T → (SessionPair T → Type 0) → SessionPair T → Type 0
Holds kind Settled p = ReadyAgree kind p × (p.to_terminal ≡ [] → p.to_host ≡ [] → Settled p)
