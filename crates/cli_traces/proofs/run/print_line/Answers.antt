use Rattle.std.specs.String.{string_bytes}
use Rattle.cli_traces.specs.Held.{following_seen}
use Rattle.cli_traces.proofs.Runs.{prints_added}
use Rattle.cli_traces.proofs.run.print_line.Goals as goal

pub returns-in-Ok-clause-prints : goal.returns-in-Ok-clause-prints
returns-in-Ok-clause-prints g c =
    prints_added c.args.asked c.args.number (following_seen c.args.follower.now) c.args.line.now (string_bytes c.new-out.result) (string_bytes c.take_line.new.out)
    (g.W.TakesBytes.contents c.args.writer.now) (g.W.TakesBytes.contents c.write_added.new.writer) c.in-Ok.next c.write_added.result (following_seen c.take_line.new.follower)
    c.new-out.ensures.bytes c.in-Ok.ensures.adds c.write_added.ensures.writes
