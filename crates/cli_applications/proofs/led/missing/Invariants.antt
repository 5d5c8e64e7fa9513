use Rattle.std.proofs.Common.{◌≡◌, ◌<◌, ℕ, true}
use Rattle.cli_applications.specs.Chains.{has}
use Rattle.cli_applications.proofs.led.missing.Given as goal

-- each so far is found
abbrev pub invariant-loop-index : goal.invariant-loop-index
invariant-loop-index l = (m : ℕ) → m < l.index → has l.found m ≡ true
