use Rattle.std.proofs.Common.{rules}
use Rattle.toml.specs.Parse.{atom}
use Rattle.plain_tables.proofs.line.scalar.Goals as goal

pub returns-in-Some : goal.returns-in-Some
unfolding atom
returns-in-Some c = rw (c.in-Some.ensures) (search rules)
