use Rattle.std.proofs.Common.{◌≡◌, ◌≤◌, ◌+◌}
use Rattle.cli_reasons.specs.Digits.{BeginsWithDigits}
use Rattle.cli_reasons.proofs.digits.goes_on.Given as goal

abbrev pub invariant-bytes : goal.invariant-bytes
invariant-bytes l = l.most ≤ 22 → 7 ≤ l.least → BeginsWithDigits (l.known + l.i) l.bytes
