-- How lines are counted.
use Rattle.std.specs.Prelude.{ℕ, ◌+◌, ◌-◌, ◌^◌, min, nat_lt, Option, Some, None, if◌then◌else◌}
use Rattle.cli_reasons.specs.declared.flaw.Flaw.{Flaw}
use Rattle.cli_reasons.specs.declared.flaw.Limit.{Limit}
use Rattle.cli_reasons.specs.declared.flaw.Why.TheVariants.{TooLong}
use Rattle.cli_reasons.specs.Flaw.{flaw_at}

-- a count stops at 2^64 - 1
abbrev pub next_number : ℕ → ℕ
next_number number = min (number + 1) (2 ^ 64 - 1)

-- one more than so many, where it is more than the limit
abbrev pub over_limit : ℕ → ℕ → Limit → Option Flaw
over_limit count most limit = if nat_lt most (next_number count) then Some (flaw_at 1 (TooLong limit)) else None
