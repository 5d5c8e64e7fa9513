use Rattle.std.proofs.Common.{◌≡◌, ◌++◌, drop}
use Rattle.std.specs.String.{string_bytes}
use Rattle.std.specs.List.{flat_map}
use Rattle.cli_findings.specs.Uri.{uri_byte}
use Rattle.cli_findings.proofs.uri.push_bytes.Given as goal

abbrev pub invariant-loop-byte : goal.invariant-loop-byte
invariant-loop-byte l = string_bytes l.out ++ flat_map uri_byte (drop l.byte-index l.path) ≡ string_bytes l.fn.out ++ flat_map uri_byte l.path
