use Rattle.cli_maps.proofs.ScreenLaws.{puts_are_left}
use Rattle.cli_maps.proofs.laws.puts_are_left.Goals as goal

pub returns : goal.returns
returns c = puts_are_left
