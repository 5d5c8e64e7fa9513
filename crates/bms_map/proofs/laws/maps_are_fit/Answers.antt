use Rattle.bms_map.proofs.MapsetLaws.{maps_are_fit}
use Rattle.bms_map.proofs.laws.maps_are_fit.Goals as goal

pub returns : goal.returns
returns c = maps_are_fit
