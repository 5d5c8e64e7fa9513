use Rattle.cli_commands.proofs.Answered.{finished}
use Rattle.cli_characters.specs.Convert.{convert_characters}
use Rattle.cli_characters.proofs.convert.run_convert_characters.Goals as goal

pub returns-clause-prints : goal.returns-clause-prints
returns-clause-prints g c =
    finished convert_characters (g.R.GivesBytes.remaining c.args.reader.now) (g.W.TakesBytes.contents c.args.writer.now) _ c.converted-answer.result c.finish.result
    c.converted-answer.ensures.answer c.finish.ensures.writes
