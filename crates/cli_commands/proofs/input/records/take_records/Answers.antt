use Rattle.cli_commands.specs.Records.{take_record}
use Rattle.cli_commands.specs.Held.{records_seen}
use Rattle.cli_commands.proofs.InTurn.{gives_known}
use Rattle.cli_commands.proofs.input.records.take_records.Goals as goal

pub returns-clause-added : goal.returns-clause-added
returns-clause-added g c = gives_known records_seen take_record c.args.none (g.S.Source.remaining c.args.source.now) c.take_lines.result c.take_lines.ensures.takes
