use Rattle.std.specs.Prelude.{Ok}
use Rattle.cli_commands.proofs.Answered.{both_finished}
use Rattle.cli_findings.specs.Report.{printed_report}
use Rattle.cli_findings.proofs.report.run_report.Goals as goal

pub returns-clause-prints : goal.returns-clause-prints
returns-clause-prints g c =
    both_finished (λ text input. Ok (printed_report c.args.pen c.args.report text input)) (g.L.GivesBytes.remaining c.args.layout.now) (g.R.GivesBytes.remaining c.args.reader.now)
    (g.W.TakesBytes.contents c.args.writer.now) _ c.report_streams-answer.result c.finish.result c.report_streams-answer.ensures.answer c.finish.ensures.writes
