use Rattle.std.proofs.Common.{length}
use Rattle.std.specs.String.{string_bytes}
use Rattle.cli_traces.specs.Held.{IsReady, following_seen}
use Rattle.cli_traces.proofs.ByteLines.{BytesSoFar}
use Rattle.cli_traces.proofs.line.take_bytes.Given as goal

-- a front of the bytes was taken, and its text added
abbrev pub invariant-bytes : goal.invariant-bytes
invariant-bytes l = record {
  so : BytesSoFar l.asked l.number l.side (following_seen l.fn.follower) l.bytes (string_bytes l.fn.out) (following_seen l.follower) l.rest (string_bytes l.out);
  ready : IsReady l.follower;
}

abbrev pub decreases-bytes : goal.decreases-bytes
decreases-bytes l = length l.rest
