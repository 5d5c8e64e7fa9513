use Rattle.std.proofs.Common.{◌+◌, ◌/◌, get_or, Some, None, ◌∙◌, ap, subst}
use Rattle.ds_places.specs.Nearest.{IsFirstFrom}
use Rattle.ds_places.specs.Pages.{Paged, lists_of, list_at, itself}
use Rattle.ds_places.proofs.PageLaws.{first_in, first_later, first_nowhere}
use Rattle.ds_places.proofs.pages.Pages.first_near.Goals as goal

pub returns-in-Some : goal.returns-in-Some
returns-in-Some g c =
    let place = g.T.Placed.place_of in
    let lists = lists_of c.self.inside.blocks.items in
    let own = c.block.ensures ∙ ap (λ bs. list_at (lists_of bs) (c.args.place / 512)) c.deref.ensures.value in
    subst (λ (u : Paged g.row.T.Denot). IsFirstFrom place u.entries c.args.place (Some c.in-Some.entry)) c.self.view_is
    (first_in place lists c.args.place c.in-Some.entry c.self.invariant.0.each (subst (λ l. IsFirstFrom place l c.args.place (Some c.in-Some.entry)) own c.in-Some.ensures))

pub returns-in_default-first_from : goal.returns-in_default-first_from
returns-in_default-first_from g c =
    let place = g.T.Placed.place_of in
    let lists = lists_of c.self.inside.blocks.items in
    let own = c.block.ensures ∙ ap (λ bs. list_at (lists_of bs) (c.args.place / 512)) c.deref.ensures.value in
    subst (λ (u : Paged g.row.T.Denot). IsFirstFrom place u.entries c.args.place None) c.self.view_is
    (first_nowhere place lists c.self.inside.used.items c.args.place c.self.invariant.0.each c.self.invariant.0.listed
    (subst (λ l. IsFirstFrom place l c.args.place None) own c.in_default.ensures)
    (subst (λ l. IsFirstFrom itself l (c.args.place / 512 + 1) None) c.deref-2.ensures.value c.in_default-first_from.ensures))

pub returns : goal.returns
returns g c =
    let place = g.T.Placed.place_of in
    let lists = lists_of c.self.inside.blocks.items in
    let later = c.in-Some-first_from.later in
    let own = c.block.ensures ∙ ap (λ bs. list_at (lists_of bs) (c.args.place / 512)) c.deref.ensures.value in
    let there = c.block-2.ensures ∙ ap (λ bs. list_at (lists_of bs) later) c.deref-3.ensures.value in
    subst (λ (u : Paged g.row.T.Denot). IsFirstFrom place u.entries c.args.place (Some c.index-block-0.result)) c.self.view_is
    (first_later place lists c.self.inside.used.items c.args.place later c.index-block-0.result c.self.invariant.0.each c.self.invariant.0.listed
    (subst (λ l. IsFirstFrom place l c.args.place None) own c.in_default.ensures)
    (subst (λ l. IsFirstFrom itself l (c.args.place / 512 + 1) (Some later)) c.deref-2.ensures.value c.in-Some-first_from.ensures)
    (c.index-block-0.is ∙ ap (λ l. get_or l 0 c.index-block-0.result) there))
