use Rattle.std.proofs.Common.{◌≡◌, ◌≢◌, ◌<◌, ◌≤◌, All, length}
use Rattle.std.specs.Io.KnownBytes.{Consumes, prepend_known}
use Rattle.cli_commands.proofs.input.next.next_line.Given as goal

abbrev pub invariant-parts : goal.invariant-parts
invariant-parts g l =
    record {
      taken : Consumes (prepend_known l.fn.ahead (g.R.GivesBytes.remaining l.fn.reader)) (prepend_known l.ahead (g.R.GivesBytes.remaining l.reader)) l.line.items;
      none : All (λ b. b ≢ 10) l.line.items;
      many : l._part ≤ length l.line.items;
      cause : g.R.GivesBytes.failures l.reader ≡ g.R.GivesBytes.failures l.fn.reader;
      few : length l.line.items < 16777219;
    }
