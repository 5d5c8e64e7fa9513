use Rattle.std.proofs.Common.{rules}
use Rattle.toml.specs.Parse.{atom}
use Rattle.toml.proofs.Views.{view-String}
use Rattle.plain_tables.proofs.line.text.Goals as goal

pub returns-in-Ok : goal.returns-in-Ok
unfolding atom
returns-in-Ok c = rw (view-String c.in-Ok.text) (search rules)
