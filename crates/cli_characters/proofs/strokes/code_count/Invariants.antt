use Rattle.std.proofs.Common.{◌≡◌, ◌≤◌, ◌+◌, ◌-◌, length, drop}
use Rattle.std.specs.Option.{option_map}
use Rattle.cli_characters.specs.Strokes.{codes_of}
use Rattle.cli_characters.proofs.strokes.code_count.Given as goal

-- so many have codes, beside those of what is left
abbrev pub invariant-loop-count : goal.invariant-loop-count
invariant-loop-count l = record {
  few : l.count ≤ length l.characters;
  same : option_map (λ others. l.count + length others) (codes_of (drop l.count l.characters)) ≡ option_map length (codes_of l.characters);
}

abbrev pub decreases-loop-count : goal.decreases-loop-count
decreases-loop-count l = length l.characters - l.count
