use Rattle.std.proofs.Common.{◌≡◌, length}
use Rattle.buffer_lines.specs.Cell.{are_pairs}
use Rattle.buffer_lines.proofs.cell.are_pairs.Given as goal

abbrev pub invariant-loop-others : goal.invariant-loop-others
invariant-loop-others l = are_pairs l.rest ≡ are_pairs l.fn.text

abbrev pub decreases-loop-others : goal.decreases-loop-others
decreases-loop-others l = length l.rest
