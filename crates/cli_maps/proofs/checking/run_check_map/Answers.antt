use Rattle.cli_commands.proofs.Answered.{finished}
use Rattle.cli_commands.proofs.Causes.{ends_known}
use Rattle.cli_maps.specs.Asked.{name_in, report_seen}
use Rattle.cli_maps.specs.Printed.{check_source}
use Rattle.cli_maps.proofs.checking.run_check_map.Goals as goal

pub returns-clause-prints : goal.returns-clause-prints
returns-clause-prints g c =
    finished (check_source (report_seen c.args.report) (name_in c.args.asked.name) c.args.asked.control) (g.R.GivesBytes.remaining c.args.reader.now) (g.W.TakesBytes.contents c.args.writer.now) _ c.check_reported-answer.result c.finish.result
    c.check_reported-answer.ensures.answer c.finish.ensures.writes

pub returns-clause-cause : goal.returns-clause-cause
returns-clause-cause g c =
    ends_known (check_source (report_seen c.args.report) (name_in c.args.asked.name) c.args.asked.control) (g.R.GivesBytes.remaining c.args.reader.now) _ _ _ _ c.check_reported-answer.result c.finish.result
    c.check_reported-answer.ensures.answer c.check_reported-answer.ensures.cause c.finish.ensures.cause
