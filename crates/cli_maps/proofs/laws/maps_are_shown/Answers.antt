use Rattle.cli_maps.proofs.ScreenLaws.{maps_are_shown}
use Rattle.cli_maps.proofs.laws.maps_are_shown.Goals as goal

pub returns : goal.returns
returns c = maps_are_shown
