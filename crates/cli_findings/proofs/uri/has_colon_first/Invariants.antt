use Rattle.std.proofs.Common.{◌≡◌, drop}
use Rattle.cli_findings.specs.Uri.{has_colon_first}
use Rattle.cli_findings.proofs.uri.has_colon_first.Given as goal

abbrev pub invariant-loop-byte : goal.invariant-loop-byte
invariant-loop-byte l = has_colon_first (drop l.byte-index l.path) ≡ has_colon_first l.fn.path
