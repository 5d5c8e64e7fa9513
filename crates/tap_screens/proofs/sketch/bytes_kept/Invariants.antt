use Rattle.std.proofs.Common.{◌≡◌, ◌++◌, drop, map}
use Rattle.cli_commands.specs.Held.{records_held}
use Rattle.tn_session.specs.KeptView.{kept_view}
use Rattle.tap_screens.specs.Sketch.{bytes_kept}
use Rattle.tap_screens.proofs.sketch.bytes_kept.Given as goal

abbrev pub invariant-loop-one : goal.invariant-loop-one
invariant-loop-one l =
    records_held l.records.items ++ bytes_kept (map kept_view (drop l.one-index l.kept)) ≡ bytes_kept (map kept_view l.fn.kept)
