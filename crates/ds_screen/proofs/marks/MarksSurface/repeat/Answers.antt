use Rattle.std.proofs.Common.{◌<◌, refl, sym, ap, subst, arith}
use Rattle.ds_screen.specs.Marks.{Marked, IsMarked, marked}
use Rattle.ds_screen.proofs.MarkLaws.{repeat_marked}
use Rattle.ds_screen.proofs.marks.MarksSurface.repeat.Goals as goal

pub returns-clause-shown : goal.returns-clause-shown
returns-clause-shown c = λ cells shown.
    let v : Marked = marked c.self.inside.marks.entries c.self.inside.size c.self.inside.limit in
    let w : Marked = marked c.cut_round.new.self.entries c.self.inside.size c.self.inside.limit in
    let inside : c.args.b < v.size = omega (arith, c.requires.inside, ap (λ u. u.size) c.self.view_is) in
    repeat_marked v w cells c.args.b c.args.stop c.reach-steps.result c.args._character (subst (λ u. IsMarked u cells) (sym c.self.view_is) shown)
    refl c.cut_round.ensures.inside inside c.reach-steps.ensures.within c.reach-steps.ensures.steps c.cut_round.ensures.cut
