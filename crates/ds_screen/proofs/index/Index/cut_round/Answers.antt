use Rattle.std.proofs.Common.{None, cond, ◌∙◌, ap}
use Rattle.ds_places.specs.Places.{at_place, is_round}
use Rattle.ds_screen.specs.Planes.{itself}
use Rattle.ds_screen.specs.Listed.{Listing}
use Rattle.ds_screen.proofs.ListedLaws.{cut_listed}
use Rattle.ds_screen.proofs.index.Index.cut_round.Goals as goal

pub returns-clause-cut : goal.returns-clause-cut
returns-clause-cut c = λ old new listed lose.
    cut_listed c.args.self.now _ old new c.args.n c.args.b c.args.steps listed lose (ap (λ (u : Listing). u.marks) c.self.view_is) c.cut_round.ensures.rising
    (λ q. c.cut_round.ensures.cut q ∙ ap (λ l. cond (is_round c.args.n c.args.b c.args.steps q) None (at_place itself l q)) (ap (λ (u : Listing). u.all) c.self.view_is))
