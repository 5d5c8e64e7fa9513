use Rattle.std.proofs.Common.{◌-◌, ◌<◌, ℕ, get_or, length, Some, None, sym, ◌∙◌, ap, subst, arith}
use Rattle.ds_places.specs.Places.{IsWithin}
use Rattle.ds_places.specs.Nearest.{IsLastBelow}
use Rattle.ds_places.specs.Pages.{Paged, lists_of, list_at}
use Rattle.ds_places.proofs.BlockLaws.{listed_some}
use Rattle.ds_places.proofs.PageLaws.{last_of_all, last_listed, none_of_all}
use Rattle.ds_places.proofs.pages.Pages.last.Goals as goal

pub returns-then-many-eq0 : goal.returns-then-many-eq0
returns-then-many-eq0 g c = λ q within.
    let place = g.T.Placed.place_of in
    subst (λ (u : Paged g.row.T.Denot). IsLastBelow place u.entries q None) c.self.view_is
    (none_of_all place (lists_of c.self.inside.blocks.items) c.self.inside.used.items c.self.invariant.0.each c.self.invariant.0.listed
    (omega (arith, c.len-many.ensures, c.if-many-eq0.true, c.self.inside.used.ok)) q)

pub last_in-requires : goal.last_in-requires
last_in-requires g c =
    let lists = lists_of c.self.inside.blocks.items in
    let used = c.self.inside.used.items in
    let i : ℕ = c.len-many.result - 1 in
    let j = c.index.result.now in
    let found = last_listed g.T.Placed.place_of lists used i j c.self.invariant.0.rising c.self.invariant.0.listed (omega (arith, c.len-many.ensures, c.if-many-eq0.false, c.self.inside.used.ok)) c.index.ensures in
    let there = c.block.ensures ∙ ap (λ bs. list_at (lists_of bs) j) c.deref.ensures.value in
    let some : 0 < length (list_at lists j) = listed_some j j (list_at lists j) (sym (c.self.invariant.0.listed j) ∙ found.1) in
    omega (arith, some, ap length there)

pub returns : goal.returns
returns g c = λ q within.
    let place = g.T.Placed.place_of in
    let lists = lists_of c.self.inside.blocks.items in
    let used = c.self.inside.used.items in
    let i : ℕ = c.len-many.result - 1 in
    let j = c.index.result.now in
    let found = last_listed place lists used i j c.self.invariant.0.rising c.self.invariant.0.listed (omega (arith, c.len-many.ensures, c.if-many-eq0.false, c.self.inside.used.ok)) c.index.ensures in
    let there = c.block.ensures ∙ ap (λ bs. list_at (lists_of bs) j) c.deref.ensures.value in
    let some : 0 < length (list_at lists j) = listed_some j j (list_at lists j) (sym (c.self.invariant.0.listed j) ∙ found.1) in
    let last : ℕ = length c.block.result.now - 1 in
    let x = c.last_in.result in
    subst (λ (u : Paged g.row.T.Denot). IsLastBelow place u.entries q (Some x)) c.self.view_is
    (last_of_all place lists used j last x c.self.invariant.0.each c.self.invariant.0.listed found (omega (arith, some, ap length there))
    (c.last_in.ensures ∙ ap (λ l. get_or l last x) there) q (subst (λ (u : Paged g.row.T.Denot). IsWithin place q u.entries) (sym c.self.view_is) within))
