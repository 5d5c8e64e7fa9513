use Rattle.std.proofs.Common.{Ok, Err}
use Rattle.cli_commands.proofs.Answered.{bounded}
use Rattle.cli_commands.proofs.input.bytes.within_limit.Goals as goal

pub returns-in-Err-clause-bytes : goal.returns-in-Err-clause-bytes
returns-in-Err-clause-bytes c = bounded c.args.text.now (Err c.in-Err.fault) c.in-Err.ensures

pub returns-in-Ok-clause-bytes : goal.returns-in-Ok-clause-bytes
returns-in-Ok-clause-bytes c = bounded c.args.text.now (Ok tt) c.in-Ok.ensures
