use Rattle.cli_commands.specs.Held.{checking_seen}
use Rattle.cli_commands.specs.Records.{take_record}
use Rattle.cli_commands.specs.Taking.{beside}
use Rattle.cli_commands.proofs.InTurn.{gives_known}
use Rattle.cli_commands.proofs.input.checking.take_added.Goals as goal

pub returns-clause-added : goal.returns-clause-added
returns-clause-added g c = gives_known checking_seen (beside take_record) c.args.none (g.S.Source.remaining c.args.source.now) c.take_lines.result c.take_lines.ensures.takes
