-- What stands at the front of a line, as the program holds it.
use Rattle.std.specs.Prelude.{map}
use Rattle.script_lines.specs.declared.action.Found as found
use Rattle.script_lines.specs.declared.action.Found.TheVariants as variants
use Rattle.script_lines.specs.Actions.{Read, ends, fault, action}

abbrev pub found_seen : found.Found → Read
found_seen variants.Ends = ends
found_seen (variants.Fault why) = fault why
found_seen (variants.Action it rest) = action it.name.now (map (λ argument. argument.items) it.arguments.items) rest.now
