use Rattle.cli_pictures.proofs.CountLaws.{draws_seen}
use Rattle.cli_pictures.proofs.law.drawing_law.Goals as goal

pub returns : goal.returns
returns c = draws_seen
