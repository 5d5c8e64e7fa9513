use Rattle.std.proofs.Common.{◌≡◌, ◌++◌, [], map, drop}
use Rattle.std.specs.String.{string_bytes}
use Rattle.script_checks.specs.Lines.{lines_after}
use Rattle.script_checks.proofs.form.push_lines.Given as goal

abbrev pub invariant-loop-line : goal.invariant-loop-line
invariant-loop-line l =
    l.out.items ++ lines_after [] (map string_bytes (drop l.line-index l.lines)) ≡ l.fn.out.items ++ lines_after [] (map string_bytes l.lines)
