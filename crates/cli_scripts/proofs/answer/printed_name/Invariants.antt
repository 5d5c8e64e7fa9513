use Rattle.std.proofs.Common.{◌≡◌, take}
use Rattle.cli_scripts.specs.Answers.{printed_name}
use Rattle.cli_scripts.proofs.answer.printed_name.Given as goal

abbrev pub invariant-bytes : goal.invariant-bytes
invariant-bytes l = l.told.items ≡ printed_name (take l.byte-index l.name)
