use Rattle.std.proofs.Common.{◌≡◌, map, drop}
use Rattle.tn_session.specs.KeptView.{kept_view}
use Rattle.script_checks.specs.Report.{are_same}
use Rattle.script_checks.proofs.judge.are_same.Given as goal

abbrev pub invariant-loop-index : goal.invariant-loop-index
invariant-loop-index l =
    are_same (map kept_view (drop l.index l.kept)) (map kept_view (drop l.index l.others)) ≡ are_same (map kept_view l.kept) (map kept_view l.others)
