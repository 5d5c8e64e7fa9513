-- What a host's run over a line did, and what it answers.
use Rattle.std.specs.Prelude.{ℕ, ◌≡◌, ◌⊎◌, Bool, true, List, Some, Result, Ok, Err}
use Rattle.scr_layout.specs.Layout.{Declaration}
use Rattle.tn_cores.specs.declared.device.ScreenModel.{ScreenModel}
use Rattle.tn_cores.specs.declared.session.SessionFault.TheVariants.{Closed, NoDevice}
use Rattle.tn_cores.specs.Devices.{fits}
use Rattle.tn_cores.specs.Host.{new_host, opening}
use Rattle.tn_cores.specs.Replies.{bytes_of}
use Rattle.tn_session.specs.declared.fault.RunFault.{RunFault}
use Rattle.tn_session.specs.declared.fault.RunFault.TheVariants.{Session}
use Rattle.tn_session.specs.declared.outcome.HostOutcome.{HostOutcome}
use Rattle.tn_session.specs.declared.turn.Finish.{Finish}
use Rattle.tn_session.specs.declared.turn.Finish.TheVariants as finish
use Rattle.tn_session.specs.HostLog.{HostRunning, host_start, host_act}
use Rattle.tn_session.specs.HostView.{outcome_view}
use Rattle.tn_session.specs.Ran.{Ran}
use Rattle.tn_session.specs.Wire.{WireState}

-- A run that an answer ended gives what came of it. Where the line ended before one, that is the fault.
abbrev pub Answers : Result Finish RunFault → HostRunning → Result HostOutcome RunFault → Type 0
Answers (Ok finish.Finished) end result = (outcome : HostOutcome) × (result ≡ Ok outcome) × (end.outcome ≡ Some (outcome_view outcome))
Answers (Ok finish.Closed) end result = result ≡ Err (Session Closed)
Answers (Err why) end result = result ≡ Err why

-- the host's run, from what it says first
pub record HostRuns (layout : Declaration) (records : List (List ℕ)) (enhanced responses : Bool) (old : WireState) (result : Result HostOutcome RunFault) (new : WireState) : Type 0 where
  pub finished : Result Finish RunFault
  pub end : HostRunning
  pub ran : Ran host_act (bytes_of (opening (new_host layout.geometry enhanced responses))) (host_start layout records enhanced responses) old finished end new
  pub answer : Answers finished end result

-- some model has the layout's sizes
abbrev pub HasModel : Declaration → Type 0
HasModel layout = (model : ScreenModel) × (fits layout.geometry model ≡ true)

-- where no model has them nothing passes over the line
abbrev pub HostRan : Declaration → List (List ℕ) → Bool → Bool → WireState → Result HostOutcome RunFault → WireState → Type 0
HostRan layout records enhanced responses old result new =
    (HasModel layout × HostRuns layout records enhanced responses old result new)
    ⊎ ((HasModel layout → ⊥) × (result ≡ Err (Session NoDevice)) × (new ≡ old))
