use Rattle.std.proofs.Common.{◌≡◌, [], drop}
use Rattle.cli_applications.specs.Manifest.{leads_from}
use Rattle.cli_applications.proofs.plan.leads_from.Given as goal

-- the leads so far, with those of the targets that are left, are those of all
abbrev pub invariant-loop-target : goal.invariant-loop-target
invariant-loop-target l = leads_from l.screens l.leads.items (drop l.target-index l.targets) ≡ leads_from l.fn.screens [] l.fn.targets
