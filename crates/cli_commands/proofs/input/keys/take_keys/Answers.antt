use Rattle.cli_commands.specs.Keys.{take_key}
use Rattle.cli_commands.specs.Held.{keys_seen}
use Rattle.cli_commands.proofs.InTurn.{gives_known}
use Rattle.cli_commands.proofs.input.keys.take_keys.Goals as goal

pub returns-clause-added : goal.returns-clause-added
returns-clause-added g c = gives_known keys_seen take_key c.args.none (g.S.Source.remaining c.args.source.now) c.take_lines.result c.take_lines.ensures.takes
