use Rattle.std.proofs.Common.{Some, subst}
use Rattle.ds_places.specs.Nearest.{IsLastBelow}
use Rattle.ds_screen.specs.Marks.{place_of, Marked}
use Rattle.ds_screen.proofs.MarkLaws.{last_rules}
use Rattle.ds_screen.proofs.marks.Marks.last_ruling.Goals as goal

pub returns-in-Some : goal.returns-in-Some
returns-in-Some c = λ cells shown.
    last_rules c.args.self.now cells c.in-Some.mark shown
    (subst (λ (u : Marked). IsLastBelow place_of u.marks u.size (Some c.in-Some.mark)) c.self.view_is (c.in-Some.ensures c.self.inside.size c.self.invariant.0.inside))
