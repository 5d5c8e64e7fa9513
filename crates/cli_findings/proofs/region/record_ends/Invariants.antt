use Rattle.std.proofs.Common.{◌≡◌, ◌++◌, map}
use Rattle.cli_commands.specs.Says.{telling}
use Rattle.cli_findings.specs.Region.{digit_ends, record_ends}
use Rattle.cli_findings.proofs.region.record_ends.Given as goal

abbrev pub invariant-loop-line : goal.invariant-loop-line
invariant-loop-line l = map (λ ends. ends.items) l.all.items ++ map digit_ends (telling l.line-iterator) ≡ record_ends l.fn.text
