use Rattle.std.proofs.Common.{◌≡◌, ◌++◌, map}
use Rattle.std.specs.List.{range_with_len}
use Rattle.script_screens.specs.Lines.{data_lines}
use Rattle.script_screens.specs.Cells.{line_of}
use Rattle.script_screens.proofs.cells.push_region.Given as goal

abbrev pub invariant-loop-line : goal.invariant-loop-line
invariant-loop-line l = l.out.items ≡ l.fn.out.items ++ data_lines (map (line_of l.code_page l.form l.screen l.region) (range_with_len 0 l.line))
