use Rattle.std.proofs.Common.{◌/◌, sym, ◌∙◌, ap}
use Rattle.ds_places.specs.Pages.{Paged, lists_of, list_at}
use Rattle.ds_places.specs.Places.{at_place}
use Rattle.ds_places.proofs.PageLaws.{at_flat}
use Rattle.ds_places.proofs.pages.Pages.held.Goals as goal

pub returns : goal.returns
returns g c =
    let place = g.T.Placed.place_of in
    let q = c.args.place in
    let block = c.block.ensures ∙ ap (λ bs. list_at (lists_of bs) (q / 512)) c.deref.ensures.value in
    c.held.ensures ∙ ap (λ l. at_place place l q) block ∙ sym (at_flat place (lists_of c.self.inside.blocks.items) c.self.invariant.0.each q)
    ∙ ap (λ (u : Paged g.row.T.Denot). at_place place u.entries q) c.self.view_is
