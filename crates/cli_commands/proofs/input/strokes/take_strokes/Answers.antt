use Rattle.cli_commands.specs.Strokes.{take_stroke}
use Rattle.cli_commands.specs.Held.{strokes_seen}
use Rattle.cli_commands.proofs.InTurn.{gives_known}
use Rattle.cli_commands.proofs.input.strokes.take_strokes.Goals as goal

pub returns-clause-added : goal.returns-clause-added
returns-clause-added g c = gives_known strokes_seen take_stroke c.args.none (g.S.Source.remaining c.args.source.now) c.take_lines.result c.take_lines.ensures.takes
