use Rattle.cli_commands.proofs.Converted.{converts_back}
use Rattle.cli_commands.proofs.law.convert_law.Goals as goal

pub returns : goal.returns
returns c = converts_back
