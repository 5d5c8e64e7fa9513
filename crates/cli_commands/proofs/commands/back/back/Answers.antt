use Rattle.cli_commands.specs.Back.{back}
use Rattle.cli_commands.specs.Backward.{answer_to}
use Rattle.cli_commands.specs.Held.{written_printed}
use Rattle.cli_commands.proofs.Backward.{written_as_they_end}
use Rattle.cli_commands.proofs.InTurn.{due_by}
use Rattle.cli_commands.proofs.commands.back.back.Goals as goal

pub returns-clause-records : goal.returns-clause-records
returns-clause-records g c = due_by written_printed (g.S.Source.remaining c.args.source.now) answer_to back c.held.result written_as_they_end c.held.ensures.held
