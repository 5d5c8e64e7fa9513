use Rattle.cli_commands.proofs.Answered.{finished}
use Rattle.cli_characters.specs.Convert.{back_characters}
use Rattle.cli_characters.proofs.convert.run_convert_back_characters.Goals as goal

pub returns-clause-prints : goal.returns-clause-prints
returns-clause-prints g c =
    finished back_characters (g.R.GivesBytes.remaining c.args.reader.now) (g.W.TakesBytes.contents c.args.writer.now) _ c.converted_back-answer.result c.finish.result
    c.converted_back-answer.ensures.answer c.finish.ensures.writes
