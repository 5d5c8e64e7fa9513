use Rattle.std.proofs.Common.{◌≡◌, ◌++◌, drop}
use Rattle.std.specs.List.{flat_map}
use Rattle.std.specs.String.{string_bytes}
use Rattle.cli_commands.proofs.output.pieces.lines_of.Given as goal

abbrev pub invariant-loop-one : goal.invariant-loop-one
invariant-loop-one g l = string_bytes l.text ++ flat_map g.T.PrintsLines.lines (drop l.one-index l.all) ≡ flat_map g.T.PrintsLines.lines l.all
