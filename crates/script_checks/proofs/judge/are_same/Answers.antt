use Rattle.std.proofs.Common.{map, sym}
use Rattle.std.proofs.lemmas.List.{length-map}
use Rattle.tn_session.specs.KeptView.{kept_view}
use Rattle.script_checks.proofs.Lists.{differ}
use Rattle.script_checks.proofs.judge.are_same.Goals as goal

pub returns-then-kept-others : goal.returns-then-kept-others
returns-then-kept-others c =
    sym (differ (map kept_view c.args.kept.now) (map kept_view c.args.others.now) (λ is. c.if-kept-others.true (simp length-map at is)))
