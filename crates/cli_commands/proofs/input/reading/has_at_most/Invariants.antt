use Rattle.std.proofs.Common.{◌≡◌, ◌≤◌}
use Rattle.std.specs.Io.KnownBytes.{prepend_known}
use Rattle.cli_commands.specs.Taking.{CountedSoFar}
use Rattle.cli_commands.proofs.input.reading.has_at_most.Given as goal

abbrev pub invariant-lines : goal.invariant-lines
invariant-lines g l =
    record {
      so : CountedSoFar (prepend_known l.fn.ahead (g.R.GivesBytes.remaining l.fn.reader)) (prepend_known l.ahead (g.R.GivesBytes.remaining l.reader)) l.left l.fn.most;
      cause : g.R.GivesBytes.failures l.reader ≡ g.R.GivesBytes.failures l.fn.reader;
      few : l.left ≤ 16777216;
    }

abbrev pub decreases-lines : goal.decreases-lines
decreases-lines g l = l.left
