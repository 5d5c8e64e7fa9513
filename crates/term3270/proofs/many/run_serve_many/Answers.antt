use Rattle.cli_sessions.specs.Held.{prepared_seen}
use Rattle.cli_sessions.specs.Prepare.{prepare}
use Rattle.term3270.proofs.Ended.{if_some, serve_ends}
use Rattle.term3270.proofs.ManyEnds.{many_ends}
use Rattle.term3270.proofs.many.run_serve_many.Goals as goal

pub returns-in-Err : goal.returns-in-Err
returns-in-Err g c =
    if_some (g.L.GivesBytes.remaining c.args.layout.now) (λ text. if_some (g.R.GivesBytes.remaining c.args.records.now) (λ input gives.
    many_ends 0 c.args.output.now c.finish-in-Err.new.writer c.finish-in-Err.result (prepare text input)
    (serve_ends prepared_seen 0 c.args.output.now c.finish-in-Err.new.writer c.finish-in-Err.result c.in-Err.error (prepare text input) gives c.finish-in-Err.ensures.writes)))
    c.in-Err.ensures.prepared
