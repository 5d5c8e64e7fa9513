use Rattle.std.proofs.Common.{◌≡◌, drop}
use Rattle.cli_findings.specs.Region.{begins, without_blanks}
use Rattle.cli_findings.proofs.region.begins.Given as goal

abbrev pub invariant-loop-byte : goal.invariant-loop-byte
invariant-loop-byte l = begins (without_blanks (drop l.byte-index l.line)) l.rest ≡ begins (without_blanks l.fn.line) l.fn.bytes
