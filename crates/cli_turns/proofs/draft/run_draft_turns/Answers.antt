use Rattle.cli_commands.proofs.Answered.{finished}
use Rattle.cli_turns.specs.Drafts.{draft_turns}
use Rattle.cli_turns.proofs.draft.run_draft_turns.Goals as goal

pub returns-clause-prints : goal.returns-clause-prints
returns-clause-prints g c =
    finished draft_turns (g.R.GivesBytes.remaining c.args.reader.now) (g.W.TakesBytes.contents c.args.writer.now) _ c.draft_read-answer.result c.finish.result
    c.draft_read-answer.ensures.answer c.finish.ensures.writes
