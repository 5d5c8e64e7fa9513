use Rattle.std.proofs.Common.{◌≡◌, [], drop}
use Rattle.cli_applications.specs.Manifest.{plans_from}
use Rattle.cli_applications.proofs.plan.plans_from.Given as goal

-- the plans so far, with those of the screens that are left, are those of all
abbrev pub invariant-loop-index : goal.invariant-loop-index
invariant-loop-index l = plans_from l.screens l.index l.plans.items (drop l.index l.screens) ≡ plans_from l.fn.screens 0 [] l.fn.screens
