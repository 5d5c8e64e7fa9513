use Rattle.std.proofs.Common.{◌≡◌, ◌<◌, length}
use Rattle.std.specs.Prelude.{IfSome}
use Rattle.std.specs.Io.{StopsAt}
use Rattle.std.specs.Io.KnownBytes.{prepend_known}
use Rattle.cli_commands.specs.NextLine.{EndsOrLong}
use Rattle.cli_scripts.specs.Runs.{PassedSoFar}
use Rattle.cli_scripts.proofs.script.Script.pass.Given as goal

abbrev pub invariant-parts : goal.invariant-parts
invariant-parts g l =
    record {
      cause : g.R.GivesBytes.failures l.reader ≡ g.R.GivesBytes.failures l.fn.reader;
      some : 0 < length l.self.line.items;
      inside : StopsAt l.self.line.items 10;
      so : IfSome (prepend_known l.fn.self.ahead (g.R.GivesBytes.remaining l.fn.reader))
          (λ bytes. PassedSoFar l.fn.self.line.items bytes l.self.line.items (prepend_known l.self.ahead (g.R.GivesBytes.remaining l.reader)) l._part
          × EndsOrLong l.self.line.items (prepend_known l.self.ahead (g.R.GivesBytes.remaining l.reader)));
    }
