use Rattle.std.proofs.Common.{◌≡◌, ◌++◌, length}
use Rattle.std.specs.Option.{option_map}
use Rattle.cli_characters.specs.Strokes.{codes_of}
use Rattle.cli_characters.proofs.strokes.codes_of.Given as goal

-- the codes so far, and those of what is left
abbrev pub invariant-loop-rest : goal.invariant-loop-rest
invariant-loop-rest l = option_map (λ others. l.text.items ++ others) (codes_of l.rest) ≡ codes_of l.fn.characters

abbrev pub decreases-loop-rest : goal.decreases-loop-rest
decreases-loop-rest l = length l.rest
