use Rattle.std.proofs.Common.{sym, ◌∙◌}
use Rattle.std.proofs.lemmas.List.{append-nil}
use Rattle.cli_scripts.specs.declared.came.Came.TheVariants as came
use Rattle.cli_scripts.specs.Runs.{need_of}
use Rattle.cli_scripts.proofs.RunLaws.{gave, bytes_meet, end_meets, front_read, late_meets, never_both, nothing_meets}
use Rattle.cli_scripts.proofs.run.take_read.Goals.{in-None, in_default}
use Rattle.cli_scripts.proofs.run.take_read.Goals as goal

pub returns-in-Bytes-clause-gives : goal.returns-in-Bytes-clause-gives
returns-in-Bytes-clause-gives g c =
    gave c.take.result (need_of c.args.patience) _ c.args.machine.now c.take.new.self (g.W.World.received c.args.world.now)
    (g.W.World.received c.read.new.self) (bytes_meet c.args.patience _)
    (front_read c.in-Bytes.count 4096 c.min.result c.read.new.piece (g.W.World.received c.args.world.now) (g.W.World.received c.read.new.self)
    c.min.ensures c.read.auto.piece c.in-Bytes.ensures.read) c.requires c.take.ensures.takes c.take.ensures.heard c.take.ensures.page
    c.take.ensures.gone c.take.ensures.answered

pub returns-in-Nothing-clause-gives : goal.returns-in-Nothing-clause-gives
returns-in-Nothing-clause-gives g c =
    let before = g.W.World.received c.args.world.now in
    let taken = c.take-in-Nothing in
    gave taken.result (need_of c.args.patience) came.Nothing c.args.machine.now taken.new.self before (g.W.World.received c.read.new.self)
    (nothing_meets c.args.patience (elim c.match-matches.branch [
      | in-None w ↦ w.in-None.is
      | in_default w ↦ absurd (never_both c.match-matches.matches c.if-matches.true w.matches-is)
    ]))
    (c.in-Nothing.ensures.read ∙ sym (append-nil before)) c.requires taken.ensures.takes taken.ensures.heard taken.ensures.page taken.ensures.gone
    taken.ensures.answered

pub returns-in-Nothing-2-clause-gives : goal.returns-in-Nothing-2-clause-gives
returns-in-Nothing-2-clause-gives g c =
    let before = g.W.World.received c.args.world.now in
    let taken = c.take-in-Nothing-2 in
    gave taken.result (need_of c.args.patience) came.Late c.args.machine.now taken.new.self before (g.W.World.received c.read.new.self)
    (late_meets c.args.patience (elim c.match-matches.branch [
      | in-None w ↦ absurd (never_both c.match-matches.matches w.matches-is c.if-matches.false)
      | in_default w ↦ w.in_default.not-None
    ]))
    (c.in-Nothing.ensures.read ∙ sym (append-nil before)) c.requires taken.ensures.takes taken.ensures.heard taken.ensures.page taken.ensures.gone
    taken.ensures.answered

pub returns-in-Closed-clause-gives : goal.returns-in-Closed-clause-gives
returns-in-Closed-clause-gives g c =
    let before = g.W.World.received c.args.world.now in
    let taken = c.take-in-Closed in
    gave taken.result (need_of c.args.patience) came.Closed c.args.machine.now taken.new.self before (g.W.World.received c.read.new.self)
    (end_meets c.args.patience) (c.in-Closed.ensures.read ∙ sym (append-nil before)) c.requires taken.ensures.takes taken.ensures.heard taken.ensures.page
    taken.ensures.gone taken.ensures.answered
