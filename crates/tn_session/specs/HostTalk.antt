-- A host's session without a line.
use Rattle.std.specs.Prelude.{ℕ, ◌≡◌, Bool, List, [], Option, None, Some, IsSome, Result, Ok, Err}
use Rattle.scr_layout.specs.Layout.{Declaration}
use Rattle.tn_cores.specs.declared.session.SessionFault.TheVariants.{NoDevice}
use Rattle.tn_cores.specs.Host.{opening}
use Rattle.tn_cores.specs.Replies.{bytes_of}
use Rattle.tn_session.specs.declared.fault.RunFault.{RunFault}
use Rattle.tn_session.specs.declared.fault.RunFault.TheVariants.{Session, OutOfMemory}
use Rattle.tn_session.specs.declared.outcome.HostOutcome.{HostOutcome}
use Rattle.tn_session.specs.HostView.{outcome_view}
use Rattle.tn_session.specs.HostLog.{Outcome, HostRunning, host_start}
use Rattle.tn_session.specs.HostRan.{HasModel}
use Rattle.tn_session.specs.OneLog.{waits, is_over}
use Rattle.tn_session.specs.Talk.{Talk, stands}

-- a session at its beginning
abbrev pub host_talk : Declaration → List (List ℕ) → Bool → Bool → Talk HostRunning
host_talk layout records enhanced responses = stands (waits (host_start layout records enhanced responses) [])

-- it is made where some model has the layout's sizes
abbrev pub IsMade : Declaration → List (List ℕ) → Bool → Bool → Talk HostRunning → Type 0
IsMade layout records enhanced responses talk = (talk ≡ host_talk layout records enhanced responses) × HasModel layout

-- else it has no device; or memory was refused
abbrev pub NotMade : Declaration → RunFault → Type 0
NotMade layout (Session NoDevice) = HasModel layout → ⊥
NotMade layout OutOfMemory = HasModel layout
NotMade layout why = ⊥

-- what a host says first
abbrev pub first_said : Talk HostRunning → List ℕ
first_said (stands (waits running left)) = bytes_of (opening running.core)
first_said talk = []

-- what came of a session that is over
abbrev pub outcome_in : Talk HostRunning → Option Outcome
outcome_in (stands (is_over end)) = end.outcome
outcome_in talk = None

-- something came of a session that is over
abbrev pub HasCome : Talk HostRunning → Type 0
HasCome (stands (is_over end)) = IsSome end.outcome
HasCome talk = Unit {0}

-- what came of a session, where something did
abbrev pub OutcomeTaken : Talk HostRunning → Result HostOutcome RunFault → Type 0
OutcomeTaken talk (Ok outcome) = outcome_in talk ≡ Some (outcome_view outcome)
OutcomeTaken talk (Err why) = outcome_in talk ≡ None
