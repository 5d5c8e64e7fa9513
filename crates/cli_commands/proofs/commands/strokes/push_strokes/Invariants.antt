use Rattle.std.proofs.Common.{◌≡◌, ◌++◌, drop}
use Rattle.std.specs.String.{string_bytes}
use Rattle.cli_commands.specs.Strike.{struck_text}
use Rattle.cli_commands.proofs.commands.strokes.push_strokes.Given as goal

abbrev pub invariant-loop-stroke : goal.invariant-loop-stroke
invariant-loop-stroke l =
    string_bytes l.out ++ struck_text l.operator (drop l.stroke-index l.strokes) ≡ string_bytes l.fn.out ++ struck_text l.fn.operator l.strokes
