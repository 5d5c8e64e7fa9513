use Rattle.cli_commands.specs.Backward.{take_line}
use Rattle.cli_commands.specs.Held.{backward_seen}
use Rattle.cli_commands.proofs.InTurn.{gives_known}
use Rattle.cli_commands.proofs.commands.back.take_added.Goals as goal

pub returns-clause-added : goal.returns-clause-added
returns-clause-added g c = gives_known backward_seen take_line c.args.none (g.S.Source.remaining c.args.source.now) c.take_lines.result c.take_lines.ensures.takes
