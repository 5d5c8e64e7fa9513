use Rattle.std.proofs.Common.{◌≡◌, ◌<◌, ◌+◌, ◌%◌, length, refl, sym, ◌∙◌, ap, subst, arith}
use Rattle.ds_screen.specs.Marks.{Marked, IsMarked, marked}
use Rattle.ds_screen.proofs.MarkLaws.{text_marked}
use Rattle.ds_screen.proofs.marks.MarksSurface.store_text.Goals as goal

pub returns-clause-shown : goal.returns-clause-shown
returns-clause-shown c = λ cells shown.
    let v : Marked = marked c.self.inside.marks.entries c.self.inside.size c.self.inside.limit in
    let w : Marked = marked c.cut_round.new.self.entries c.self.inside.size c.self.inside.limit in
    let inside : c.args.b < v.size = omega (arith, c.requires.inside, ap (λ u. u.size) c.self.view_is) in
    text_marked v w cells c.args.b c.min-steps.result c.args.run.now (subst (λ u. IsMarked u cells) (sym c.self.view_is) shown)
    refl c.cut_round.ensures.inside inside c.min-steps.ensures c.cut_round.ensures.cut

pub returns-clause-after : goal.returns-clause-after
returns-clause-after c =
    let size : c.self.inside.size ≡ c.args.self.now.size = ap (λ u. u.size) c.self.view_is in
    c.behind.ensures.value ∙ ap (λ n. (c.args.b + length c.args.run.now) % n) size
