use Rattle.std.proofs.Common.{subst}
use Rattle.std.specs.Result.{IfOk}
use Rattle.cli_traces.specs.Told.{TellsRecords}
use Rattle.takvorn_c.specs.Left.{asked_of}
use Rattle.takvorn_c.proofs.records_left.Goals as goal

pub returns : goal.returns
returns c = c.leave_records.ensures (asked_of c.args.stream c.args.answers) c.args.trace.now
    (subst (λ asked. IfOk c.records_text-told.result (λ told. TellsRecords asked c.args.trace.now told.text.items told.status)) c.asked_of-asked.ensures c.records_text-told.ensures)
