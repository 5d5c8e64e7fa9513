use Rattle.std.proofs.Common.{◌≡◌, ◌≤◌, ◌-◌, length}
use Rattle.cli_reasons.specs.Digits.{BeginsWithDigits}
use Rattle.cli_reasons.proofs.digits.leading_digits.Given as goal

abbrev pub invariant-known : goal.invariant-known
invariant-known l = (l.known ≤ length l.bytes) × BeginsWithDigits l.known l.bytes

abbrev pub decreases-known : goal.decreases-known
decreases-known l = length l.bytes - l.known
