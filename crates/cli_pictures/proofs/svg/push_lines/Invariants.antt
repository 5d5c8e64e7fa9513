use Rattle.std.proofs.Common.{◌≡◌, ◌++◌}
use Rattle.std.specs.String.{string_bytes}
use Rattle.std.specs.List.{flat_map, range_with_len}
use Rattle.cli_pictures.specs.Svg.{line_at}
use Rattle.cli_pictures.proofs.svg.push_lines.Given as goal

abbrev pub invariant-loop-p : goal.invariant-loop-p
invariant-loop-p l = string_bytes l.out ≡ string_bytes l.fn.out ++ flat_map (line_at l.screen) (range_with_len 0 l.p)
