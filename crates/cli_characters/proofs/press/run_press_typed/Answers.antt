use Rattle.cli_commands.proofs.Answered.{both_finished}
use Rattle.cli_characters.specs.Press.{strike_typed}
use Rattle.cli_characters.proofs.press.run_press_typed.Goals as goal

pub returns-clause-prints : goal.returns-clause-prints
returns-clause-prints g c =
    both_finished strike_typed (g.R.GivesBytes.remaining c.args.reader.now) (g.K.GivesBytes.remaining c.args.strokes.now) (g.W.TakesBytes.contents c.args.writer.now) _
    c.strike_read-answer.result c.finish.result c.strike_read-answer.ensures.answer c.finish.ensures.writes
