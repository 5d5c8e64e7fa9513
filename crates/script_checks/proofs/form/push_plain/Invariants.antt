use Rattle.std.proofs.Common.{◌≡◌, ◌++◌, map, drop}
use Rattle.script_checks.specs.Forms.{plain_byte}
use Rattle.script_checks.proofs.form.push_plain.Given as goal

abbrev pub invariant-loop-byte : goal.invariant-loop-byte
invariant-loop-byte l = l.out.items ++ map plain_byte (drop l.byte-index l.name) ≡ l.fn.out.items ++ map plain_byte l.name
