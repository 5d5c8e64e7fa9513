use Rattle.std.proofs.Common.{◌≡◌, take}
use Rattle.cli_traces.specs.Following.{without_colons}
use Rattle.cli_traces.proofs.asked.without_colons.Given as goal

abbrev pub invariant-loop-byte : goal.invariant-loop-byte
invariant-loop-byte l = l.digits.items ≡ without_colons (take l.byte-index l.line)
