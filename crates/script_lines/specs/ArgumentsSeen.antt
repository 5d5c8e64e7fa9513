-- Arguments, as the program holds them.
use Rattle.std.specs.Prelude.{map}
use Rattle.script_lines.specs.declared.arguments.Arguments as found
use Rattle.script_lines.specs.declared.arguments.Arguments.TheVariants as variants
use Rattle.script_lines.specs.declared.arguments.Next as follows
use Rattle.script_lines.specs.declared.arguments.Next.TheVariants as nexts
use Rattle.script_lines.specs.Arguments.{Arguments, given, stopped, Next, at_end, comma, closed, other}

abbrev pub arguments_seen : found.Arguments → Arguments
arguments_seen (variants.Given arguments rest) = given (map (λ argument. argument.items) arguments.items) rest.now
arguments_seen (variants.Stopped why left) = stopped why left.now

abbrev pub next_seen : follows.Next → Next
next_seen nexts.AtEnd = at_end
next_seen (nexts.Comma rest) = comma rest.now
next_seen (nexts.Closed rest) = closed rest.now
next_seen (nexts.Other left) = other left.now
