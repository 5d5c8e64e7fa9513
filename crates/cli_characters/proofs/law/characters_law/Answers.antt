use Rattle.cli_characters.proofs.Read.{runs_are_read}
use Rattle.cli_characters.proofs.Back.{characters_convert_back}
use Rattle.cli_characters.proofs.law.characters_law.Goals as goal

pub returns-clause-runs : goal.returns-clause-runs
returns-clause-runs c = runs_are_read

pub returns-clause-back : goal.returns-clause-back
returns-clause-back c = characters_convert_back
