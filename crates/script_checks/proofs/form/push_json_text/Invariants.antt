use Rattle.std.proofs.Common.{◌≡◌, ◌++◌, drop}
use Rattle.script_checks.specs.Forms.{json_text}
use Rattle.script_checks.proofs.form.push_json_text.Given as goal

abbrev pub invariant-loop-byte : goal.invariant-loop-byte
invariant-loop-byte l = l.out.items ++ json_text (drop l.byte-index l.text) ≡ l.fn.out.items ++ json_text l.text
