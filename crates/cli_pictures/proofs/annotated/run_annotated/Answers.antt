use Rattle.cli_commands.proofs.Answered.{both_finished}
use Rattle.cli_pictures.specs.Annotated.{annotated}
use Rattle.cli_pictures.proofs.annotated.run_annotated.Goals as goal

pub returns-clause-prints : goal.returns-clause-prints
returns-clause-prints g c =
    both_finished (annotated c.args.form) (g.L.GivesBytes.remaining c.args.layout.now) (g.R.GivesBytes.remaining c.args.reader.now) (g.W.TakesBytes.contents c.args.writer.now) _
    c.annotated_read-answer.result c.finish.result c.annotated_read-answer.ensures.answer c.finish.ensures.writes
