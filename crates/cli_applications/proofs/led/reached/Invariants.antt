use Rattle.std.proofs.Common.{◌-◌, length}
use Rattle.cli_applications.proofs.Found.{Finds}
use Rattle.cli_applications.proofs.led.reached.Given as goal

abbrev pub invariant-found : goal.invariant-found
invariant-found l = Finds l.screens l.first l.at l.found.items

abbrev pub decreases-found : goal.decreases-found
decreases-found l = length l.screens - l.at
