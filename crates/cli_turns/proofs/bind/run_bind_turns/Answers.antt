use Rattle.cli_commands.specs.TurnsHeld.{all_remaining}
use Rattle.cli_commands.proofs.Turned.{talk_finished, talk_ends}
use Rattle.cli_turns.specs.Binds.{bind_turns}
use Rattle.cli_turns.proofs.bind.run_bind_turns.Goals as goal

pub returns-clause-prints : goal.returns-clause-prints
returns-clause-prints g c =
    talk_finished (bind_turns c.args.form) (all_remaining g.L.GivesBytes.remaining c.args.layouts.now) (g.R.GivesBytes.remaining c.args.reader.now) (g.W.TakesBytes.contents c.args.writer.now) _ c.bind_read-answer.result c.finish.result
    c.bind_read-answer.ensures.answer c.finish.ensures.writes

pub returns-clause-cause : goal.returns-clause-cause
returns-clause-cause g c =
    talk_ends (bind_turns c.args.form) (all_remaining g.L.GivesBytes.remaining c.args.layouts.now) (g.R.GivesBytes.remaining c.args.reader.now) _ _ (g.W.TakesBytes.failures c.args.writer.now) _ c.bind_read-answer.result c.finish.result
    c.bind_read-answer.ensures.answer c.bind_read-answer.ensures.cause c.finish.ensures.cause
