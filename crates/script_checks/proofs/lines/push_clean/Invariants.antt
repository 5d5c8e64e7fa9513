use Rattle.std.proofs.Common.{◌≡◌, ◌++◌, drop}
use Rattle.script_checks.specs.Lines.{clean}
use Rattle.script_checks.proofs.lines.push_clean.Given as goal

abbrev pub invariant-loop-byte : goal.invariant-loop-byte
invariant-loop-byte l = l.out.items ++ clean (drop l.byte-index l.name) ≡ l.fn.out.items ++ clean l.name
