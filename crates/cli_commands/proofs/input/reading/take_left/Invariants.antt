use Rattle.std.proofs.Common.{◌≡◌, ◌≤◌, ◌+◌}
use Rattle.std.specs.Io.KnownBytes.{prepend_known}
use Rattle.cli_commands.specs.Taking.{TakenSoFar}
use Rattle.cli_commands.proofs.input.reading.take_left.Given as goal

abbrev pub invariant-lines : goal.invariant-lines
invariant-lines g l =
    record {
      so : TakenSoFar g.T.TakesLines.takes l.fn.none (prepend_known l.fn.ahead (g.R.GivesBytes.remaining l.fn.reader)) (prepend_known l.ahead (g.R.GivesBytes.remaining l.reader)) l.number l.told l.left;
      from : 1 ≤ l.number;
      cause : g.R.GivesBytes.failures l.reader ≡ g.R.GivesBytes.failures l.fn.reader;
      few : l.number + l.left ≤ 16777217;
    }

abbrev pub decreases-lines : goal.decreases-lines
decreases-lines g l = l.left
