use Rattle.std.proofs.Common.{map}
use Rattle.tn_session.proofs.TolerantSteps.{tolerant_pieces}
use Rattle.tn_session.proofs.tolerant_line.tolerant_run.Goals as goal

pub returns : goal.returns
returns g c = record {
  ran = c.run_tolerant.ensures;
  pieces = tolerant_pieces c.args.device (map g.K.Keystroke.strike c.args.keys.now) c.args.wire.now c.run_tolerant.new.wire c.run_tolerant.result c.run_tolerant.ensures;
}
