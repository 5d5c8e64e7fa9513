use Rattle.std.proofs.Common.{◌++◌, length, refl, sym, ◌∙◌}
use Rattle.cli_scripts.specs.declared.deed.Deed.TheVariants.{Heard}
use Rattle.cli_scripts.proofs.DeskSteps.{plain_step}
use Rattle.cli_scripts.proofs.FaultLaws.{takes_fault}
use Rattle.cli_scripts.proofs.desk.Desk.take.Goals as goal

pub invariant_of-self : goal.invariant_of-self
invariant_of-self c =
    let took = c.take-told.ensures.took in
    plain_step c.self.inside.device c.self.inside.deeds.items c.and-self-inside.result.items (Heard (length c.args.bytes.now)) c.self.inside.heard.items
    c.add_bytes.new.history.items c.args.bytes.now c.self.inside.gone.items c.self.inside.due.items c.take-told.new.due.items took.0
    c.self.inside.collects (c.self.inside.judged.items ++ c.self.inside.unjudged.items) c.self.inside.session.talk c.take-told.new.self.talk
    c.and-self-inside.ensures c.add_bytes.ensures took.1 c.self.invariant (refl, refl, (c.take-told.result, took.2))

pub returns-clause-told : goal.returns-clause-told
returns-clause-told c =
    let took = c.take-told.ensures.took in
    c.ended_by.ensures
    ∙ sym (takes_fault c.self.inside.session.talk c.args.bytes.now c.take-told.result took.0 c.take-told.new.self.talk took.2)
