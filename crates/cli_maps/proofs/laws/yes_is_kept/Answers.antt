use Rattle.cli_maps.proofs.KeptLaws.{yes_is_kept}
use Rattle.cli_maps.proofs.laws.yes_is_kept.Goals as goal

pub returns : goal.returns
returns c = yes_is_kept
