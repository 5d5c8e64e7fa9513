use Rattle.std.proofs.Common.{◌≡◌, ◌++◌, List, ℕ, length}
use Rattle.std.specs.Io.KnownBytes.{Appends}
use Rattle.cli_commands.proofs.output.answer.write_text.Given as goal

abbrev pub invariant-loop-rest : goal.invariant-loop-rest
invariant-loop-rest g l =
    record {
      so : (front : List ℕ) × (l.text ≡ front ++ l.rest) × Appends (g.W.TakesBytes.contents l.fn.writer) (g.W.TakesBytes.contents l.writer) front;
      cause : g.W.TakesBytes.failures l.writer ≡ g.W.TakesBytes.failures l.fn.writer;
    }

abbrev pub decreases-loop-rest : goal.decreases-loop-rest
decreases-loop-rest g l = length l.rest
