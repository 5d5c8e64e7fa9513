use Rattle.std.proofs.Common.{ap}
use Rattle.tn_dialogue.specs.DialogueTalk.{begun, first_said}
use Rattle.cli_hosts.proofs.Told.{opens_one}
use Rattle.cli_dialogues.specs.Dialogues.{DialogueHosting, DialogueTakes}
use Rattle.cli_dialogues.proofs.hosts.DialogueHostsHosts.open.Goals as goal

pub returns-clause-opened : goal.returns-clause-opened
returns-clause-opened c =
    let talk = begun c.self.inside.application.now.screens c.self.inside.application.now.first in
    opens_one DialogueTakes c.self.inside.hub c.args.self.now.room c.args.now c.in-Ok.token c.open_dialogue.new.hub talk (first_said talk)
    (ap (λ (h : DialogueHosting). h.room) c.self.view_is) c.in-Ok.ensures.opened c.in-Ok.ensures.free c.in-Ok.ensures.counted
