use Rattle.std.proofs.Common.{◌≡◌}
use Rattle.cli_commands.specs.Lines.{lines_in}
use Rattle.cli_buffers.specs.Reading.{at_first, reading_seen}
use Rattle.cli_buffers.specs.Reason.{flaw_from}
use Rattle.cli_buffers.proofs.reason.lines_flaw.Given as goal

-- what is refused of the lines that are left is what is refused of all
abbrev pub invariant-loop-line : goal.invariant-loop-line
invariant-loop-line l = flaw_from l.sizes (reading_seen l.reading) l.line-iterator ≡ flaw_from l.sizes at_first (lines_in l.fn.text)
