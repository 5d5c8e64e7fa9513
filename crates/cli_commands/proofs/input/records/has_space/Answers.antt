use Rattle.cli_commands.proofs.Spaces.{without_none}
use Rattle.cli_commands.proofs.input.records.has_space.Goals as goal

pub returns-in-None : goal.returns-in-None
returns-in-None c none = without_none c.args.line.now (rw c.in-None.is at c.memchr.ensures)
