use Rattle.std.proofs.Common.{◌≡◌, drop}
use Rattle.std.specs.List.{find}
use Rattle.cli_maps.specs.Mend.{is_stopper_at, stopper_at}
use Rattle.cli_maps.proofs.mend.stopper_at.Given as goal

abbrev pub invariant-loop-field : goal.invariant-loop-field
invariant-loop-field l = find (is_stopper_at l.cell) (drop l.field-index l.map.fields) ≡ stopper_at l.map l.cell
