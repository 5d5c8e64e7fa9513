use Rattle.std.proofs.Common.{◌≡◌, drop, Ok}
use Rattle.std.specs.List.{flat_map}
use Rattle.order_lines.specs.Print.{record_lines}
use Rattle.cli_commands.specs.Convert.{lines_printed}
use Rattle.cli_commands.specs.Held.{records_held}
use Rattle.cli_commands.specs.Printed.{joined}
use Rattle.cli_commands.proofs.commands.convert.read_each.Given as goal

abbrev pub invariant-loop-index : goal.invariant-loop-index
invariant-loop-index l =
    joined (Ok (flat_map record_lines l.all.items)) (lines_printed l.mode l.index (records_held (drop l.index l.records))) ≡ lines_printed l.mode 0 (records_held l.records)
