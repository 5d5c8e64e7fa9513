use Rattle.std.proofs.Common.{◌≡◌, drop}
use Rattle.cli_commands.specs.Records.{without_spaces}
use Rattle.cli_findings.proofs.record_line.is_ignored_without_spaces.Given as goal

abbrev pub invariant-loop-byte : goal.invariant-loop-byte
invariant-loop-byte l = without_spaces (drop l.byte-index l.line) ≡ without_spaces l.line
