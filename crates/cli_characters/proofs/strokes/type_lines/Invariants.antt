use Rattle.std.proofs.Common.{◌≡◌, ◌++◌, length}
use Rattle.std.specs.String.{string_bytes}
use Rattle.cli_characters.specs.Lines.{joined}
use Rattle.cli_characters.specs.Strokes.{type_line}
use Rattle.cli_characters.proofs.strokes.type_lines.Given as goal

-- the lines so far, and those of what is left
abbrev pub invariant-loop-rest : goal.invariant-loop-rest
invariant-loop-rest l = string_bytes l.out ++ joined type_line l.rest ≡ joined type_line l.fn.text

abbrev pub decreases-loop-rest : goal.decreases-loop-rest
decreases-loop-rest l = length l.rest
