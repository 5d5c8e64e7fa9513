use Rattle.std.proofs.Common.{◌≡◌, drop}
use Rattle.std.specs.List.{find}
use Rattle.cli_maps.specs.Lines.{field_at, is_at}
use Rattle.cli_maps.proofs.lines.field_at.Given as goal

abbrev pub invariant-loop-field : goal.invariant-loop-field
invariant-loop-field l = find (is_at l.map l.place) (drop l.field-index l.map.fields) ≡ field_at l.map l.place
