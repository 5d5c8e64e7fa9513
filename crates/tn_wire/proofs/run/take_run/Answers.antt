use Rattle.tn_wire.proofs.Runs.{none_taken, run_taken}
use Rattle.tn_wire.proofs.run.take_run.Goals as goal

pub returns-in-Nothing-clause-goes_on : goal.returns-in-Nothing-clause-goes_on
returns-in-Nothing-clause-goes_on c ps fits =
    rw c.in-Nothing.is
    (run_taken c.args.kept.now.items c.copy_run.new.kept.items c.args.input.now.now c.copy_run.new.input.now c.copy_run.ensures.limit
    c.copy_run.ensures.takes)

pub returns-in_default : goal.returns-in_default
returns-in_default c = record {
  goes_on = λ ps fits. none_taken c.args.kept.now.items ps c.args.state c.args.input.now.now c.requires.limit fits;
  limit = c.requires.limit;
  room = c.requires.room;
}
