use Rattle.cli_maps.proofs.VerdictLaws.{maps_are_judged}
use Rattle.cli_maps.proofs.laws.maps_are_judged.Goals as goal

pub returns : goal.returns
returns c = maps_are_judged
