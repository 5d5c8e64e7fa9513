use Rattle.cli_commands.proofs.Answered.{finished}
use Rattle.cli_pictures.specs.Picture.{pictured}
use Rattle.cli_pictures.proofs.picture.run_picture.Goals as goal

pub returns-clause-prints : goal.returns-clause-prints
returns-clause-prints g c =
    finished (pictured c.args.drawing) (g.R.GivesBytes.remaining c.args.reader.now) (g.W.TakesBytes.contents c.args.writer.now) _ c.picture_records-answer.result c.finish.result
    c.picture_records-answer.ensures.answer c.finish.ensures.writes
