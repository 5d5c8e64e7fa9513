use Rattle.cli_characters.proofs.Codes.{none_printed}
use Rattle.cli_characters.proofs.table.printed.Goals as goal

pub returns-in-None-clause-value : goal.returns-in-None-clause-value
returns-in-None-clause-value c = none_printed c.args.code c.ranges.code.fits c.in-None.ensures
