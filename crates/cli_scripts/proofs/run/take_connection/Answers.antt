use Rattle.std.proofs.Common.{◌≡◌, sym, ap, ◌∙◌}
use Rattle.std.proofs.lemmas.List.{append-nil}
use Rattle.cli_scripts.specs.declared.came.Came.TheVariants as came
use Rattle.cli_scripts.specs.declared.came.Need.TheVariants.{Connection}
use Rattle.cli_scripts.proofs.RunLaws.{gave}
use Rattle.cli_scripts.proofs.run.take_connection.Goals.{in-Some, in-None}
use Rattle.cli_scripts.proofs.run.take_connection.Goals as goal

pub returns-then-connected-clause-gives : goal.returns-then-connected-clause-gives
returns-then-connected-clause-gives g c =
    let before = g.W.World.received c.args.world.now in
    let silent : g.W.World.received c.match-wanted_host.world ≡ before = elim c.match-wanted_host.branch [
      | in-Some w ↦ ap (λ x. g.W.World.received x) w.world-is ∙ w.connect-connected.ensures.0
      | in-None w ↦ ap (λ x. g.W.World.received x) w.world-is
    ] in
    gave c.take.result Connection came.Connected c.args.machine.now c.take.new.self before (g.W.World.received c.match-wanted_host.world) tt
    (silent ∙ sym (append-nil before)) c.requires c.take.ensures.takes c.take.ensures.heard c.take.ensures.page c.take.ensures.gone
    c.take.ensures.answered

pub returns-clause-gives : goal.returns-clause-gives
returns-clause-gives g c =
    let before = g.W.World.received c.args.world.now in
    let silent : g.W.World.received c.match-wanted_host.world ≡ before = elim c.match-wanted_host.branch [
      | in-Some w ↦ ap (λ x. g.W.World.received x) w.world-is ∙ w.connect-connected.ensures.0
      | in-None w ↦ ap (λ x. g.W.World.received x) w.world-is
    ] in
    gave c.take-else-connected.result Connection (came.Unconnected _) c.args.machine.now c.take-else-connected.new.self before (g.W.World.received c.match-wanted_host.world) tt
    (silent ∙ sym (append-nil before)) c.requires c.take-else-connected.ensures.takes c.take-else-connected.ensures.heard c.take-else-connected.ensures.page c.take-else-connected.ensures.gone
    c.take-else-connected.ensures.answered
