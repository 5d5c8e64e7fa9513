use Rattle.std.proofs.Common.{◌≡◌, map, take}
use Rattle.cli_offers.specs.Held.{scenes_held}
use Rattle.cli_offers.specs.Ways.{erases}
use Rattle.cli_offers.proofs.prepare.erased.Given as goal

abbrev pub invariant-loop-screen : goal.invariant-loop-screen
invariant-loop-screen l = l.erased.items ≡ map (λ scene. erases scene.records) (scenes_held (take l.screen-index l.screens))
