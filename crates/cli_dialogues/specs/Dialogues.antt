-- A dialogue in a hub.
use Rattle.std.specs.Prelude.{ℕ, ◌≡◌, List, Result}
use Rattle.session_hub.specs.Hubs.{Room}
use Rattle.session_hub.specs.declared.session.Came.{Came}
use Rattle.tn_session.specs.declared.fault.RunFault.{RunFault}
use Rattle.tn_session.specs.declared.progress.Progress.{Progress}
use Rattle.tn_session.specs.Talk.{Talk, Takes}
use Rattle.tn_dialogue.specs.Dialogue.{Running, dialogue_act}
use Rattle.cli_hosts.specs.Hosting.{came_of}
use Rattle.cli_dialogues.specs.Applications.{Offered}

-- What a session of its own does with the bytes: the same is due, and so it then stands.
pub record DialogueTakes (old : Talk Running) (bytes : List ℕ) (came : Came) (given : List ℕ) (new : Talk Running) : Type 0 where
  pub result : Result Progress RunFault
  pub took : Takes dialogue_act old bytes result given new
  pub is : came ≡ came_of result

-- hosts of an application: the hub, and what is offered
pub record DialogueHosting : Type 0 where
  pub room : Room (Talk Running)
  pub offered : Offered
