use Rattle.std.proofs.Common.{◌≡◌, sym, ap, ◌∙◌}
use Rattle.std.proofs.lemmas.List.{append-nil}
use Rattle.cli_scripts.specs.declared.came.Came.TheVariants as came
use Rattle.cli_scripts.specs.declared.came.Need.TheVariants.{Layout}
use Rattle.cli_scripts.proofs.RunLaws.{gave}
use Rattle.cli_scripts.proofs.run.take_layout.Goals.{in-Some, in-None}
use Rattle.cli_scripts.proofs.run.take_layout.Goals as goal

pub returns-then-read-clause-gives : goal.returns-then-read-clause-gives
returns-then-read-clause-gives g c =
    let before = g.W.World.received c.args.world.now in
    let silent : g.W.World.received c.match-wanted_file.world ≡ before = elim c.match-wanted_file.branch [
      | in-Some w ↦ ap (λ x. g.W.World.received x) w.world-is ∙ w.read_file-read.ensures.0
      | in-None w ↦ ap (λ x. g.W.World.received x) w.world-is
    ] in
    gave c.take.result Layout (came.Layout _) c.args.machine.now c.take.new.self before (g.W.World.received c.match-wanted_file.world) tt
    (silent ∙ sym (append-nil before)) c.requires c.take.ensures.takes c.take.ensures.heard c.take.ensures.page c.take.ensures.gone
    c.take.ensures.answered

pub returns-clause-gives : goal.returns-clause-gives
returns-clause-gives g c =
    let before = g.W.World.received c.args.world.now in
    let silent : g.W.World.received c.match-wanted_file.world ≡ before = elim c.match-wanted_file.branch [
      | in-Some w ↦ ap (λ x. g.W.World.received x) w.world-is ∙ w.read_file-read.ensures.0
      | in-None w ↦ ap (λ x. g.W.World.received x) w.world-is
    ] in
    gave c.take-else-read.result Layout (came.Layout _) c.args.machine.now c.take-else-read.new.self before (g.W.World.received c.match-wanted_file.world) tt
    (silent ∙ sym (append-nil before)) c.requires c.take-else-read.ensures.takes c.take-else-read.ensures.heard c.take-else-read.ensures.page c.take-else-read.ensures.gone
    c.take-else-read.ensures.answered
