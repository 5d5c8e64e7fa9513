use Rattle.std.proofs.Common.{◌≡◌, ◌++◌, take}
use Rattle.cli_scripts.specs.Answers.{printed_text}
use Rattle.cli_scripts.proofs.answer.push_printed.Given as goal

abbrev pub invariant-bytes : goal.invariant-bytes
invariant-bytes l = l.lines.items ≡ l.initial.lines.items ++ printed_text (take l.byte-index l.text)
