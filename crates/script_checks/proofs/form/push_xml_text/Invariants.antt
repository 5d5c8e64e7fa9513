use Rattle.std.proofs.Common.{◌≡◌, ◌++◌, drop}
use Rattle.script_checks.specs.Forms.{xml_text}
use Rattle.script_checks.proofs.form.push_xml_text.Given as goal

abbrev pub invariant-loop-byte : goal.invariant-loop-byte
invariant-loop-byte l = l.out.items ++ xml_text (drop l.byte-index l.text) ≡ l.fn.out.items ++ xml_text l.text
