use Rattle.std.proofs.Common.{◌≡◌}
use Rattle.std.specs.Io.KnownBytes.{prepend_known}
use Rattle.cli_traces.specs.Held.{following_seen, IsReady}
use Rattle.cli_traces.proofs.Runs.{SoFar}
use Rattle.cli_traces.proofs.run.run_records.Given as goal

abbrev pub invariant-loop-number : goal.invariant-loop-number
invariant-loop-number g l =
    record {
      ready : IsReady l.follower;
      read : g.R.GivesBytes.failures l.reader ≡ g.R.GivesBytes.failures l.fn.reader;
      wrote : g.W.TakesBytes.failures l.writer ≡ g.W.TakesBytes.failures l.fn.writer;
      so_far : SoFar l.asked (g.R.GivesBytes.remaining l.fn.reader) (prepend_known l.ahead (g.R.GivesBytes.remaining l.reader)) (g.W.TakesBytes.contents l.fn.writer) (g.W.TakesBytes.contents l.writer) l.number (following_seen l.follower);
    }
