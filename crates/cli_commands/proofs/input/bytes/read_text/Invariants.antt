use Rattle.std.proofs.Common.{◌≡◌, ◌≤◌, ◌-◌, length}
use Rattle.std.specs.Io.KnownBytes.{Consumes, prepend_known}
use Rattle.cli_commands.proofs.input.bytes.read_text.Given as goal

abbrev pub invariant-pieces : goal.invariant-pieces
invariant-pieces g l =
    record {
      taken : Consumes (g.R.GivesBytes.remaining l.fn.reader) (prepend_known l.ahead (g.R.GivesBytes.remaining l.reader)) l.text.items;
      few : length l.text.items ≤ 16777217;
      cause : g.R.GivesBytes.failures l.reader ≡ g.R.GivesBytes.failures l.fn.reader;
    }

abbrev pub decreases-pieces : goal.decreases-pieces
decreases-pieces g l = 16777217 - length l.text.items
