use Rattle.std.proofs.Common.{◌≡◌, drop}
use Rattle.cli_offers.specs.Held.{scenes_held}
use Rattle.cli_offers.specs.Prepare.{other_from}
use Rattle.cli_offers.proofs.sizes.other.Given as goal

-- each screen so far is of these sizes
abbrev pub invariant-loop-index : goal.invariant-loop-index
invariant-loop-index l = other_from l.geometry l.index (scenes_held (drop l.index l.screens)) ≡ other_from l.fn.geometry 0 (scenes_held l.fn.screens)
