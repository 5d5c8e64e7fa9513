use Rattle.std.proofs.Common.{◌≡◌, ◌++◌, drop}
use Rattle.std.specs.List.{flat_map}
use Rattle.std.specs.String.{string_bytes}
use Rattle.cli_commands.specs.Pieces.{WritesOn}
use Rattle.cli_commands.proofs.output.pieces.write_lines.Given as goal

abbrev pub invariant-loop-one : goal.invariant-loop-one
invariant-loop-one g l =
    record {
      so : WritesOn (g.W.TakesBytes.contents l.fn.writer) (g.W.TakesBytes.contents l.writer) (flat_map g.T.PrintsLines.lines l.all)
          (string_bytes l.piece ++ flat_map g.T.PrintsLines.lines (drop l.one-index l.all));
      cause : g.W.TakesBytes.failures l.writer ≡ g.W.TakesBytes.failures l.fn.writer;
    }
