-- A host's session in a hub.
use Rattle.std.specs.Prelude.{ℕ, ◌≡◌, List, Option, Some, None, Result, Ok, Err}
use Rattle.session_hub.specs.declared.session.Came.{Came}
use Rattle.session_hub.specs.declared.session.Came.TheVariants as came
use Rattle.tn_session.specs.declared.fault.RunFault.{RunFault}
use Rattle.tn_session.specs.declared.progress.Progress.{Progress}
use Rattle.tn_session.specs.declared.progress.Progress.TheVariants.{More, Done}
use Rattle.tn_session.specs.HostLog.{HostRunning, host_act}
use Rattle.tn_session.specs.Talk.{Talk, Takes}

-- how its session stands, and why it failed
pub record Hosting : Type 0 where
  pub talk : Talk HostRunning
  pub fault : Option RunFault

abbrev pub hosting : Talk HostRunning → Hosting
hosting talk = record { talk = talk; fault = None }

-- a session that is done or failed is over
abbrev pub came_of : Result Progress RunFault → Came
came_of (Ok More) = came.More
came_of (Ok (Done taken)) = came.Over
came_of (Err why) = came.Over

abbrev pub fault_of : Result Progress RunFault → Option RunFault → Option RunFault
fault_of (Ok progress) before = before
fault_of (Err why) before = Some why

-- What a session of its own does with the bytes: the same is due, and so it then stands.
pub record HostTakes (old : Hosting) (bytes : List ℕ) (came : Came) (given : List ℕ) (new : Hosting) : Type 0 where
  pub result : Result Progress RunFault
  pub took : Takes host_act old.talk bytes result given new.talk
  pub is : came ≡ came_of result
  pub failed : new.fault ≡ fault_of result old.fault
