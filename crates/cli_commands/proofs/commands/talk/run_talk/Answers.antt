use Rattle.cli_commands.specs.Talk.{talk}
use Rattle.cli_commands.specs.TurnsHeld.{all_remaining}
use Rattle.cli_commands.proofs.Turned.{talk_finished, talk_ends}
use Rattle.cli_commands.proofs.commands.talk.run_talk.Goals as goal

pub returns-clause-prints : goal.returns-clause-prints
returns-clause-prints g c =
    talk_finished talk (all_remaining g.L.GivesBytes.remaining c.args.layouts.now) (g.R.GivesBytes.remaining c.args.reader.now) (g.W.TakesBytes.contents c.args.writer.now) _ c.talk_read-answer.result c.finish.result
    c.talk_read-answer.ensures.answer c.finish.ensures.writes

pub returns-clause-cause : goal.returns-clause-cause
returns-clause-cause g c =
    talk_ends talk (all_remaining g.L.GivesBytes.remaining c.args.layouts.now) (g.R.GivesBytes.remaining c.args.reader.now) _ _ (g.W.TakesBytes.failures c.args.writer.now) _ c.talk_read-answer.result c.finish.result
    c.talk_read-answer.ensures.answer c.talk_read-answer.ensures.cause c.finish.ensures.cause
