use Rattle.scr_check.specs.Seen.{findings_in}
use Rattle.cli_commands.specs.Check.{findings_beside, findings_told}
use Rattle.cli_commands.proofs.CheckedLines.{beside_told}
use Rattle.cli_commands.proofs.InTurn.{due_by}
use Rattle.cli_commands.proofs.input.checking.verdict_of.Goals as goal

pub returns-clause-listed : goal.returns-clause-listed
returns-clause-listed g c =
    due_by findings_in (g.S.Source.remaining c.args.source.now) (findings_beside c.args.layout.now) (findings_told c.args.layout.now) c.verdict_beside.result
    (beside_told c.args.layout.now) c.verdict_beside.ensures.listed
