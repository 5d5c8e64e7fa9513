use Rattle.std.proofs.Common.{◌≡◌, ◌++◌, false, map, drop}
use Rattle.std.specs.String.{string_bytes}
use Rattle.script_checks.specs.Forms.{quoted_after}
use Rattle.script_checks.proofs.form.push_all_quoted.Given as goal

abbrev pub invariant-loop-line : goal.invariant-loop-line
invariant-loop-line l =
    l.out.items ++ quoted_after l.later (map string_bytes (drop l.line-index l.lines)) ≡ l.fn.out.items ++ quoted_after false (map string_bytes l.lines)
