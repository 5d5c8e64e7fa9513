use Rattle.std.proofs.Common.{◌≡◌, ◌++◌, length}
use Rattle.std.specs.Option.{option_map}
use Rattle.cli_characters.specs.Operand.{told_from, told_of}
use Rattle.cli_characters.proofs.operand.told.Given as goal

-- the bytes so far, and those that what is left spells
abbrev pub invariant-loop-rest : goal.invariant-loop-rest
invariant-loop-rest l = option_map (λ others. l.bytes.items ++ others) (told_from l.place l.rest) ≡ told_of l.fn.operand

abbrev pub decreases-loop-rest : goal.decreases-loop-rest
decreases-loop-rest l = length l.rest
