use Rattle.std.proofs.Common.{◌≡◌, ◌-◌, length, map}
use Rattle.script_lines.specs.Arguments.{words_within}
use Rattle.script_lines.proofs.ArgumentLaws.{before}
use Rattle.script_lines.proofs.arguments.words_to_the_end.Given as goal

abbrev pub invariant-turns : goal.invariant-turns
invariant-turns l =
    before (map (λ argument. argument.items) l.words.items) (words_within (length l.bytes - l._turn) l.rest) ≡ words_within (length l.bytes) l.bytes
