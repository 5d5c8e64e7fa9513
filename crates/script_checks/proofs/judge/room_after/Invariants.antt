use Rattle.std.proofs.Common.{◌≡◌, map, drop}
use Rattle.tn_session.specs.KeptView.{kept_view}
use Rattle.script_checks.specs.Report.{room_after}
use Rattle.script_checks.proofs.judge.room_after.Given as goal

abbrev pub invariant-loop-record : goal.invariant-loop-record
invariant-loop-record l = room_after l.left (map kept_view (drop l.record-index l.kept)) ≡ room_after l.fn.room (map kept_view l.kept)
