use Rattle.std.proofs.Common.{◌≡◌, ◌+◌, ◌-◌, length, get_or, ◌∙◌, ap, subst, arith}
use Rattle.ds_places.proofs.SearchLaws.{Parts, last_found, last_none}
use Rattle.ds_places.proofs.search.last_below.Goals as goal

pub returns-then-before-eq0-clause-nearest : goal.returns-then-before-eq0-clause-nearest
returns-then-before-eq0-clause-nearest g c =
    last_none g.T.Placed.place_of c.args.entries.now c.args.place c.count_below-before.result c.requires
    (subst (λ xs. Parts g.T.Placed.place_of xs c.args.place c.count_below-before.result) c.new-seen.ensures.same c.count_below-before.ensures.parts) c.if-before-eq0.true

pub item-entry-requires-clause-few : goal.item-entry-requires-clause-few
item-entry-requires-clause-few g c = omega (arith, c.count_below-before.ensures.few)

pub returns-clause-nearest : goal.returns-clause-nearest
returns-clause-nearest g c =
    let place = g.T.Placed.place_of in
    let xs = c.args.entries.now in
    let back : c.count_below-before.result ≡ c.count_below-before.result - 1 + 1 = omega (arith, c.if-before-eq0.false) in
    let parts = subst (λ l. Parts place l c.args.place c.count_below-before.result) c.new-seen.ensures.same c.count_below-before.ensures.parts in
    let same = c.count_below-before.ensures.kept ∙ c.new-seen.ensures.same in
    last_found place xs c.args.place (c.count_below-before.result - 1) c.item-entry.result c.requires (subst (Parts place xs c.args.place) back parts)
    (omega (arith, c.count_below-before.ensures.within, c.if-before-eq0.false, ap length c.new-seen.ensures.same))
    (c.item-entry.ensures.value ∙ ap (λ l. get_or l (c.count_below-before.result - 1) c.item-entry.result) same)

pub returns-clause-few : goal.returns-clause-few
returns-clause-few g c = omega (arith, c.count_below-before.ensures.few, c.item-entry.ensures.counted, c.looks-2.ensures)
