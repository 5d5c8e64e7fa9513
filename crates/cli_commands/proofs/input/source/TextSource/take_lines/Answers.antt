use Rattle.std.proofs.Common.{Bor, List, ℕ}
use Rattle.cli_commands.proofs.InTurn.{takes_long, takes_lent}
use Rattle.cli_commands.proofs.input.source.TextSource.take_lines.Goals as goal

pub returns-in-Ok-clause-takes : goal.returns-in-Ok-clause-takes
returns-in-Ok-clause-takes g c =
    takes_lent g.T.TakesLines.takes c.args.none c.args.self.now.0.now c.in-Ok.lines.now c.take_lines.result c.in-Ok.ensures.bytes c.in-Ok.ensures.short c.take_lines.ensures.takes

pub returns-in-Err-clause-takes : goal.returns-in-Err-clause-takes
returns-in-Err-clause-takes g c = takes_long g.T.TakesLines.takes c.args.none (λ (t : Bor (List ℕ)). t.now) c.args.self.now.0.now c.in-Err.error c.in-Err.ensures.bytes
