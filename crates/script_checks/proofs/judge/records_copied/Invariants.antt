use Rattle.std.proofs.Common.{◌≡◌, ◌++◌, map, drop}
use Rattle.tn_session.specs.KeptView.{kept_view}
use Rattle.script_checks.proofs.judge.records_copied.Given as goal

abbrev pub invariant-loop-record : goal.invariant-loop-record
invariant-loop-record l = map kept_view l.copy.items ++ map kept_view (drop l.record-index l.kept) ≡ map kept_view l.kept
