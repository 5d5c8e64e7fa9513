use Rattle.cli_commands.specs.Fault.{GivesOrFails}
use Rattle.cli_commands.specs.Held.{answer_seen}
use Rattle.std.specs.Prelude.{Ok}
use Rattle.cli_findings.specs.Report.{report, or_refusal}
use Rattle.cli_findings.proofs.Known.{under}
use Rattle.cli_findings.proofs.report.report_lines.Goals as goal

pub returns-clause-answer : goal.returns-clause-answer
returns-clause-answer g c =
    under (g.L.Source.remaining c.args.layout.now) (g.R.Source.remaining c.args.records.now) (λ text input. GivesOrFails answer_seen c.report_read-answer.result (report c.args.pen text input))
    (λ text input. GivesOrFails answer_seen c.or_refusal.result (Ok (or_refusal (report c.args.pen text input)))) (λ text input is. c.or_refusal.ensures.readers (report c.args.pen text input) is)
    c.report_read-answer.ensures.answer

pub returns-clause-cause : goal.returns-clause-cause
returns-clause-cause g c = c.or_refusal.ensures.cause _ _ c.report_read-answer.ensures.cause
