use Rattle.std.proofs.Common.{◌≡◌, ◌++◌, map}
use Rattle.bms_source.specs.Rows.{lines_in}
use Rattle.bms_source.proofs.statement.lines_of.Given as goal

abbrev pub invariant-loop-line : goal.invariant-loop-line
invariant-loop-line l = map (λ line. line.now) l.lines.items ++ l.line-iterator ≡ lines_in l.fn.text
