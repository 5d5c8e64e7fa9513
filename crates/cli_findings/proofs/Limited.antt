-- The line of a refused layout, within the limit of a text and past it.
use Rattle.std.proofs.Common.{◌≡◌, ◌<◌, ◌≤◌, ℕ, true, false, List, length, Ok, refl, arith}
use Rattle.std.specs.Prelude.{nat_lt}
use Rattle.std.proofs.lemmas.Bool.Decides.{nat_tests}
use Rattle.cli_commands.specs.declared.fault.Fault.{Fault}
use Rattle.cli_commands.specs.Lines.{within_limit}
use Rattle.cli_findings.specs.Region.{line_in}

is_short : (n most : ℕ) → n ≤ most → nat_lt most n ≡ false
is_short n most few = grind (arith, nat_tests)

is_long : (n most : ℕ) → most < n → nat_lt most n ≡ true
is_long n most many = grind (arith, nat_tests)

pub line_short : (text : List ℕ) (fault : Fault) → length text ≤ 16777216 → line_in (Ok text) fault ≡ line_in (within_limit text) fault
unfolding within_limit
line_short text fault short = rw (is_short (length text) 16777216 short) refl

pub line_long : (text : List ℕ) (fault : Fault) → 16777216 < length text → 1 ≡ line_in (within_limit text) fault
unfolding within_limit
line_long text fault long = rw (is_long (length text) 16777216 long) refl
