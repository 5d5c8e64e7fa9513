use Rattle.std.proofs.Common.{◌≡◌}
use Rattle.cli_commands.specs.Lines.{lines_in}
use Rattle.cli_buffers.specs.Reading.{all_from, at_first, reading_seen}
use Rattle.cli_buffers.proofs.reading.all_lines.Given as goal

-- what follows the lines that are left is what follows all
abbrev pub invariant-loop-line : goal.invariant-loop-line
invariant-loop-line l = all_from l.sizes (reading_seen l.reading) l.line-iterator ≡ all_from l.sizes at_first (lines_in l.fn.text)
