use Rattle.std.proofs.Common.{◌≡◌, ◌++◌}
use Rattle.std.specs.String.{string_bytes}
use Rattle.std.specs.List.{flat_map}
use Rattle.ds_screen.specs.Fields.{fields_of}
use Rattle.cli_commands.specs.Screen.{field_line}
use Rattle.cli_commands.proofs.output.screen.push_field_lines.Given as goal

abbrev pub invariant-loop-field : goal.invariant-loop-field
invariant-loop-field l = string_bytes l.out ++ flat_map field_line l.field-iterator ≡ string_bytes l.fn.out ++ flat_map field_line (fields_of l.screen.cells)
