use Rattle.std.proofs.Common.{◌≡◌, ◌++◌, List, ℕ, length}
use Rattle.std.specs.Io.KnownBytes.{Appends}
use Rattle.cli_scripts.proofs.tool.write_lines.Given as goal

abbrev pub invariant-writes : goal.invariant-writes
invariant-writes g l =
    record {
      so : (front : List ℕ) × (l.lines ≡ front ++ l.rest) × Appends (g.O.TakesBytes.contents l.fn.output) (g.O.TakesBytes.contents l.output) front;
      cause : g.O.TakesBytes.failures l.output ≡ g.O.TakesBytes.failures l.fn.output;
    }

abbrev pub decreases-writes : goal.decreases-writes
decreases-writes g l = length l.rest
