use Rattle.cli_commands.specs.Turns.{take_turn_line}
use Rattle.cli_commands.specs.TurnsHeld.{turns_seen}
use Rattle.cli_commands.proofs.InTurn.{gives_known}
use Rattle.cli_commands.proofs.input.turns.take_turns.Goals as goal

pub returns-clause-added : goal.returns-clause-added
returns-clause-added g c = gives_known turns_seen take_turn_line c.args.none (g.S.Source.remaining c.args.source.now) c.take_lines.result c.take_lines.ensures.takes
