use Rattle.std.proofs.Common.{◌≡◌}
use Rattle.cli_commands.specs.Lines.{lines_in}
use Rattle.cli_reasons.specs.Refusal.{holds_records}
use Rattle.cli_reasons.proofs.refusal.holds_records.Given as goal

-- the lines that are left lead to the same
abbrev pub invariant-loop-line : goal.invariant-loop-line
invariant-loop-line l = holds_records l.line-iterator ≡ holds_records (lines_in l.fn.text)
