use Rattle.std.proofs.Common.{◌≡◌, ◌++◌, length}
use Rattle.cli_characters.specs.Strokes.{typed_text}
use Rattle.cli_characters.proofs.strokes.typed_text.Given as goal

-- the lines that were written, and those that are left
abbrev pub invariant-loop-line : goal.invariant-loop-line
invariant-loop-line l = l.out.items ++ typed_text l.rest ≡ typed_text l.fn.text

abbrev pub decreases-loop-line : goal.decreases-loop-line
decreases-loop-line l = length l.rest
