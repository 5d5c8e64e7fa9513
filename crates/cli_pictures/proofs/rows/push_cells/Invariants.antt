use Rattle.std.proofs.Common.{◌≡◌, ◌++◌}
use Rattle.std.specs.String.{string_bytes}
use Rattle.std.specs.List.{flat_map, range_with_len}
use Rattle.cli_pictures.specs.Rows.{seen_column}
use Rattle.cli_pictures.proofs.rows.push_cells.Given as goal

abbrev pub invariant-loop-column : goal.invariant-loop-column
invariant-loop-column l = string_bytes l.out ≡ string_bytes l.fn.out ++ flat_map (seen_column l.screen l.row) (range_with_len 0 l.column)
