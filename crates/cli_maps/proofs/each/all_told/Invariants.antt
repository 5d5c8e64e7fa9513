use Rattle.std.proofs.Common.{◌≡◌, drop}
use Rattle.std.specs.String.{string_bytes}
use Rattle.cli_commands.specs.Printed.{printed}
use Rattle.cli_maps.specs.Told.{all_told, told_by}
use Rattle.cli_maps.proofs.Folds.{after}
use Rattle.cli_maps.proofs.each.all_told.Given as goal

abbrev pub invariant-loop-map : goal.invariant-loop-map
invariant-loop-map l =
    after (printed (string_bytes l.text) l.status) (all_told (told_by l.form l.control) (drop l.map-index l.maps)) ≡ all_told (told_by l.form l.control) l.maps
