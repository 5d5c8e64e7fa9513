use Rattle.std.proofs.Common.{◌≡◌, ◌≤◌, ◌+◌, length}
use Rattle.cli_characters.specs.Lines.{parts_of}
use Rattle.cli_characters.specs.Strokes.{line_from}
use Rattle.cli_characters.proofs.strokes.line_of.Given as goal

-- what is left leads to the same line, and its number fits
abbrev pub invariant-loop-line : goal.invariant-loop-line
invariant-loop-line l = record {
  same : line_from l.number (parts_of l.rest) l.left ≡ line_from 1 (parts_of l.fn.text) l.key_line;
  few : l.number + length l.rest ≤ 1 + length l.fn.text;
}

abbrev pub decreases-loop-line : goal.decreases-loop-line
decreases-loop-line l = length l.rest
