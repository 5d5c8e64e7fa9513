use Rattle.std.proofs.Common.{◌≡◌, [], drop}
use Rattle.cli_offers.specs.Held.{scenes_seen}
use Rattle.cli_offers.specs.Sources.{scenes_from}
use Rattle.cli_offers.proofs.sources.scenes_from.Given as goal

-- the screens so far, with those of the plans that are left, are those of all
abbrev pub invariant-loop-index : goal.invariant-loop-index
invariant-loop-index l = scenes_from l.files l.index (scenes_seen l.screens) (drop l.index l.plans) ≡ scenes_from l.fn.files 0 [] l.fn.plans
