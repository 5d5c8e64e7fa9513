use Rattle.cli_pictures.proofs.NameLaws.{names_each}
use Rattle.cli_pictures.proofs.law.names_law.Goals as goal

pub returns : goal.returns
returns c = names_each
