use Rattle.std.specs.Io.KnownBytes.{Keeps}
use Rattle.cli_commands.proofs.streams.read_through.Given as goal

abbrev pub invariant-tries : goal.invariant-tries
invariant-tries g l = Keeps (g.R.Read.remaining l.fn.stream) (g.R.Read.remaining l.stream)
