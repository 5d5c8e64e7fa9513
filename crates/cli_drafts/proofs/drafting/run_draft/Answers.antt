use Rattle.cli_commands.proofs.Answered.{finished}
use Rattle.cli_drafts.specs.Draft.{draft}
use Rattle.cli_drafts.proofs.drafting.run_draft.Goals as goal

pub returns-clause-prints : goal.returns-clause-prints
returns-clause-prints g c =
    finished draft (g.R.GivesBytes.remaining c.args.reader.now) (g.W.TakesBytes.contents c.args.writer.now) _ c.draft_records-answer.result c.finish.result
    c.draft_records-answer.ensures.answer c.finish.ensures.writes
