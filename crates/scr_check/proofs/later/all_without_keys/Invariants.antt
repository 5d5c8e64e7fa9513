use Rattle.std.proofs.Common.{◌≡◌, ◌++◌, map, take, drop}
use Rattle.scr_check.specs.Walk.{without_keys}
use Rattle.scr_check.proofs.later.all_without_keys.Given as goal

abbrev pub invariant-findings : goal.invariant-findings
invariant-findings l = l.findings.items ≡ map without_keys (take l.i l.fn.findings.items) ++ drop l.i l.fn.findings.items
