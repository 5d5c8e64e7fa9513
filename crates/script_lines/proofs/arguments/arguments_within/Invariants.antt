use Rattle.std.proofs.Common.{◌≡◌, ◌-◌, length, map}
use Rattle.script_lines.specs.Arguments.{arguments_within}
use Rattle.script_lines.proofs.ArgumentLaws.{before}
use Rattle.script_lines.proofs.arguments.arguments_within.Given as goal

abbrev pub invariant-turns : goal.invariant-turns
invariant-turns l =
    before (map (λ argument. argument.items) l.arguments.items) (arguments_within (length l.bytes - l._turn) l.rest) ≡ arguments_within (length l.bytes) l.bytes
