use Rattle.std.proofs.Common.{◌≡◌, ◌++◌}
use Rattle.std.specs.String.{string_bytes}
use Rattle.std.specs.List.{flat_map, range_with_len}
use Rattle.cli_pictures.specs.Notes.{part_element}
use Rattle.cli_pictures.proofs.notes.push_parts.Given as goal

abbrev pub invariant-loop-steps : goal.invariant-loop-steps
invariant-loop-steps l = string_bytes l.out ≡ string_bytes l.fn.out ++ flat_map (part_element l.screen l.p l.count l.words) (range_with_len 0 l.steps)
