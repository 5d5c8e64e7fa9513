use Rattle.std.proofs.Common.{sym, ◌∙◌}
use Rattle.std.proofs.lemmas.List.{append-nil}
use Rattle.cli_scripts.specs.declared.came.Came.TheVariants as came
use Rattle.cli_scripts.specs.declared.came.Need.TheVariants.{Pause}
use Rattle.cli_scripts.proofs.RunLaws.{gave, gave_for}
use Rattle.cli_scripts.proofs.run.give.Goals as goal

pub returns-in-Pause-clause-gives : goal.returns-in-Pause-clause-gives
returns-in-Pause-clause-gives g c =
    let before = g.W.World.received c.args.world.now in
    let after = g.W.World.received c.pause.new.self in
    gave_for c.take.result c.args.need (Pause c.in-Pause.time) c.args.machine.now c.take.new.self before after c.in-Pause.is
    (gave c.take.result (Pause c.in-Pause.time) came.Late c.args.machine.now c.take.new.self before after tt
    (c.pause.ensures.0 ∙ sym (append-nil before)) c.requires c.take.ensures.takes c.take.ensures.heard c.take.ensures.page c.take.ensures.gone c.take.ensures.answered)
