use Rattle.std.proofs.Common.{◌≡◌, ◌++◌, length, map}
use Rattle.std.specs.String.{string_bytes}
use Rattle.cli_traces.specs.Device.{shown}
use Rattle.cli_traces.proofs.device.push_shown.Given as goal

-- what was pushed, and what is to be
abbrev pub invariant-loop-rest : goal.invariant-loop-rest
invariant-loop-rest l = string_bytes l.out ++ map shown l.rest ≡ string_bytes l.fn.out ++ map shown l.bytes

abbrev pub decreases-loop-rest : goal.decreases-loop-rest
decreases-loop-rest l = length l.rest
