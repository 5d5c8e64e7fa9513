use Rattle.std.proofs.Common.{◌≡◌, ap, subst}
use Rattle.session_hub.specs.Hubs.{seat_at, ended_in}
use Rattle.cli_hosts.specs.Hosts.{TellsOne, SettlesOne}
use Rattle.cli_dialogues.specs.Dialogues.{DialogueHosting}
use Rattle.cli_dialogues.specs.Lines.{IsToldDialogue}
use Rattle.cli_dialogues.proofs.Told.{tells_one, settles_one}
use Rattle.cli_dialogues.proofs.hosts.DialogueHostsHosts.settle.Goals as goal

pub returns-clause-told : goal.returns-clause-told
returns-clause-told g c =
    let same : c.self.inside.application.now ≡ c.args.self.now.offered = ap (λ (h : DialogueHosting). h.offered) c.self.view_is in
    subst (λ offered. TellsOne (IsToldDialogue offered) c.args.output.now c.settle_dialogue.new.output c.settle_dialogue.result) same
    (tells_one c.self.inside.application.now (ended_in (seat_at c.args.token c.self.inside.hub.seats)) c.args.output.now c.settle_dialogue.new.output c.settle_dialogue.result c.settle_dialogue.ensures.printed)

pub returns-clause-settled : goal.returns-clause-settled
returns-clause-settled g c =
    subst (λ (h : DialogueHosting). SettlesOne (ended_in (seat_at c.args.token h.room.seats)) c.settle_dialogue.result) c.self.view_is
    (settles_one c.self.inside.application.now (ended_in (seat_at c.args.token c.self.inside.hub.seats)) c.args.output.now c.settle_dialogue.new.output c.settle_dialogue.result c.settle_dialogue.ensures.printed)
