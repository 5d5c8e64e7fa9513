use Rattle.cli_maps.specs.Asked.{name_in, report_seen}
use Rattle.cli_maps.specs.Printed.{check_limited, or_faulted}
use Rattle.cli_maps.proofs.Read.{reported}
use Rattle.cli_maps.proofs.checking.check_reported.Goals as goal

pub returns-clause-answer : goal.returns-clause-answer
returns-clause-answer g c =
    reported (g.S.Source.remaining c.args.from.now) (check_limited (report_seen c.args.report) (name_in c.args.asked.name) c.args.asked.control) (or_faulted (report_seen c.args.report))
    c.check_read-answer.result c.or_faulted.result c.or_faulted.ensures.readers c.check_read-answer.ensures.answer

pub returns-clause-cause : goal.returns-clause-cause
returns-clause-cause g c = c.or_faulted.ensures.cause (g.S.Source.failures c.args.from.now) (g.S.Source.failures c.check_read-answer.new.from) c.check_read-answer.ensures.cause
