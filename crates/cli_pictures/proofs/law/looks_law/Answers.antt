use Rattle.cli_pictures.proofs.LookLaws.{rows_are_shown}
use Rattle.cli_pictures.proofs.law.looks_law.Goals as goal

pub returns : goal.returns
returns c = rows_are_shown
