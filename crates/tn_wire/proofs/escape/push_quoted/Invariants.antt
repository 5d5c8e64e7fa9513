use Rattle.std.proofs.Common.{◌≡◌, ◌++◌, length}
use Rattle.tn_wire.specs.Telnet.{quoted}
use Rattle.tn_wire.proofs.escape.push_quoted.Given as goal

abbrev pub invariant-runs : goal.invariant-runs
invariant-runs l = l.out.items ++ quoted l.rest ≡ l.fn.out.items ++ quoted l.bytes

abbrev pub decreases-runs : goal.decreases-runs
decreases-runs l = length l.rest
