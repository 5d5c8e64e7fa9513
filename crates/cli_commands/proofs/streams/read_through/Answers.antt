use Rattle.cli_commands.proofs.Ahead.{consumes_on, same_keeps}
use Rattle.cli_commands.proofs.streams.read_through.Goals as goal

pub tries-init : goal.tries-init
tries-init g c = same_keeps (g.R.Read.remaining c.args.stream.now)

pub returns-in-Ok-clause-bytes : goal.returns-in-Ok-clause-bytes
returns-in-Ok-clause-bytes g c =
    (consumes_on (g.R.Read.remaining c.args.stream.now) (g.R.Read.remaining c.tries.stream) (g.R.Read.remaining c.read.new.self) _ c.tries.invariant c.in-Ok.ensures.bytes.0, c.in-Ok.ensures.bytes.1)
