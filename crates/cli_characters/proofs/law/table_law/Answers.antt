use Rattle.cli_characters.proofs.Codes.{codes_are_printed, characters_are_read}
use Rattle.cli_characters.proofs.law.table_law.Goals as goal

pub returns-clause-printed : goal.returns-clause-printed
returns-clause-printed c = codes_are_printed

pub returns-clause-read : goal.returns-clause-read
returns-clause-read c = characters_are_read
