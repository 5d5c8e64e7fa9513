use Rattle.std.proofs.Common.{◌/◌, sym, ◌∙◌, ap, subst}
use Rattle.ds_places.specs.Places.{at_place, IsRising}
use Rattle.ds_places.specs.Pages.{Paged, lists_of, list_at}
use Rattle.ds_places.proofs.PageLaws.{at_flat, rises_flat, uncut}
use Rattle.ds_places.proofs.pages.Pages.cut.Goals as goal

pub returns-else-can_hold-clause-cut : goal.returns-else-can_hold-clause-cut
returns-else-can_hold-clause-cut g c = λ q.
    let place = g.T.Placed.place_of in
    uncut place c.args.from c.args.to c.args.self.now.entries q (λ at below.
    ap (λ (u : Paged g.row.T.Denot). at_place place u.entries q) (sym c.self.view_is) ∙ at_flat place (lists_of c.self.inside.blocks.items) c.self.invariant.0.each q
    ∙ ap (λ bs. at_place place (list_at (lists_of bs) (q / 512)) q) (sym c.deref.ensures.value) ∙ c.can_hold.ensures.none c.if-can_hold.false q at below)

pub returns-else-can_hold-clause-rising : goal.returns-else-can_hold-clause-rising
returns-else-can_hold-clause-rising g c =
    subst (λ (u : Paged g.row.T.Denot). IsRising g.T.Placed.place_of u.entries) c.self.view_is (rises_flat g.T.Placed.place_of (lists_of c.self.inside.blocks.items) c.self.invariant.0.each)
