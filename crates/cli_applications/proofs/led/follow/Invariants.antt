use Rattle.std.proofs.Common.{◌≡◌, drop}
use Rattle.cli_applications.specs.Chains.{with_leads}
use Rattle.cli_applications.proofs.led.follow.Given as goal

-- what is found so far, with what the leads that are left add, is what all add
abbrev pub invariant-loop-lead : goal.invariant-loop-lead
invariant-loop-lead l = with_leads l.count l.found.items (drop l.lead-index l.leads) ≡ with_leads l.fn.count l.fn.found.items l.fn.leads
