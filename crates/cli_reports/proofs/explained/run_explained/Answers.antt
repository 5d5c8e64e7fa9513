use Rattle.cli_commands.proofs.Answered.{both_finished}
use Rattle.cli_reports.specs.Explained.{explained}
use Rattle.cli_reports.proofs.explained.run_explained.Goals as goal

pub returns-clause-prints : goal.returns-clause-prints
returns-clause-prints g c =
    both_finished (explained c.args.pen) (g.L.GivesBytes.remaining c.args.layout.now) (g.R.GivesBytes.remaining c.args.reader.now) (g.W.TakesBytes.contents c.args.writer.now) _
    c.explained_read-answer.result c.finish.result c.explained_read-answer.ensures.answer c.finish.ensures.writes
