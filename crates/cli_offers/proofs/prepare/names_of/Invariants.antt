use Rattle.std.proofs.Common.{◌≡◌, map, take, string_bytes}
use Rattle.cli_offers.specs.Outcome.{names_of}
use Rattle.cli_offers.proofs.prepare.names_of.Given as goal

abbrev pub invariant-loop-plan : goal.invariant-loop-plan
invariant-loop-plan l = map string_bytes l.names.items ≡ names_of (take l.plan-index l.plans)
