use Rattle.std.proofs.Common.{◌-◌, ◌+◌, ◌/◌, ◌<◌, ℕ, get_or, length, Some, None, sym, ◌∙◌, ap, subst, arith}
use Rattle.ds_places.specs.Nearest.{IsLastBelow}
use Rattle.ds_places.specs.Pages.{Paged, lists_of, list_at, itself}
use Rattle.ds_places.proofs.BlockLaws.{listed_some}
use Rattle.ds_places.proofs.PageLaws.{last_in, last_earlier, last_nowhere, block_length, used_few}
use Rattle.ds_places.proofs.pages.Pages.last_to.Goals as goal

pub returns-in-Some-clause-nearest : goal.returns-in-Some-clause-nearest
returns-in-Some-clause-nearest g c =
    let place = g.T.Placed.place_of in
    let lists = lists_of c.self.inside.blocks.items in
    let k : ℕ = c.args.place / 512 in
    let p : ℕ = c.args.place + 1 in
    let own = c.block.ensures ∙ ap (λ bs. list_at (lists_of bs) k) c.deref.ensures.value in
    let near = subst (λ l. IsLastBelow place l p (Some c.in-Some.entry)) own
    (subst (λ o. IsLastBelow place c.block.result.now p o) c.in-Some.is (subst (λ n. IsLastBelow place c.block.result.now (n + 1) c.last_below-own.result.entry) c.from.ensures c.last_below-own.ensures.nearest)) in
    subst (λ (u : Paged g.row.T.Denot). IsLastBelow place u.entries p (Some c.in-Some.entry)) c.self.view_is
    (last_in place lists k p c.in-Some.entry (omega arith) c.self.invariant.0.each near)

pub returns-in-Some-clause-looks : goal.returns-in-Some-clause-looks
returns-in-Some-clause-looks g c = λ digits small.
    let lists = lists_of c.self.inside.blocks.items in
    let own = c.block.ensures ∙ ap (λ bs. list_at (lists_of bs) (c.args.place / 512)) c.deref.ensures.value in
    c.last_below-own.ensures.looks digits (omega (arith, small, ap length own, block_length g.T.Placed.place_of lists (c.args.place / 512), ap (λ (u : Paged g.row.T.Denot). length u.entries) c.self.view_is))

pub overflow_add-result : goal.overflow_add-result
overflow_add-result g c = omega (arith, c.last_below-earlier.ensures.few)

pub overflow_add-result-2 : goal.overflow_add-result-2
overflow_add-result-2 g c = omega (arith, c.last_below-own.ensures.few)

pub overflow_add-result-3 : goal.overflow_add-result-3
overflow_add-result-3 g c = omega (arith, c.last_below-earlier.ensures.few)

pub returns-in_default-entry-clause-nearest : goal.returns-in_default-entry-clause-nearest
returns-in_default-entry-clause-nearest g c =
    let place = g.T.Placed.place_of in
    let lists = lists_of c.self.inside.blocks.items in
    let k : ℕ = c.args.place / 512 in
    let p : ℕ = c.args.place + 1 in
    let own = c.block.ensures ∙ ap (λ bs. list_at (lists_of bs) k) c.deref.ensures.value in
    let none = subst (λ l. IsLastBelow place l p None) own
    (subst (λ o. IsLastBelow place c.block.result.now p o) c.in_default.is (subst (λ n. IsLastBelow place c.block.result.now (n + 1) c.last_below-own.result.entry) c.from.ensures c.last_below-own.ensures.nearest)) in
    let nowhere = subst (λ l. IsLastBelow itself l k None) c.deref-2.ensures.value
    (subst (λ o. IsLastBelow itself c.deref-2.result.now k o) c.in_default-entry.is (subst (λ n. IsLastBelow itself c.deref-2.result.now n c.last_below-earlier.result.entry) c.from-2.ensures c.last_below-earlier.ensures.nearest)) in
    subst (λ (u : Paged g.row.T.Denot). IsLastBelow place u.entries p None) c.self.view_is
    (last_nowhere place lists c.self.inside.used.items k p (omega arith) c.self.invariant.0.each c.self.invariant.0.listed none nowhere)

pub returns-in_default-entry-clause-looks : goal.returns-in_default-entry-clause-looks
returns-in_default-entry-clause-looks g c = λ digits small.
    let lists = lists_of c.self.inside.blocks.items in
    let own = c.block.ensures ∙ ap (λ bs. list_at (lists_of bs) (c.args.place / 512)) c.deref.ensures.value in
    c.last_below-own.ensures.looks digits (omega (arith, small, ap length own, block_length g.T.Placed.place_of lists (c.args.place / 512), ap (λ (u : Paged g.row.T.Denot). length u.entries) c.self.view_is))

pub returns-in_default-entry-clause-blocks : goal.returns-in_default-entry-clause-blocks
returns-in_default-entry-clause-blocks g c = λ digits small.
    let lists = lists_of c.self.inside.blocks.items in
    let used = used_few g.T.Placed.place_of lists c.self.inside.used.items c.self.invariant.0.rising c.self.invariant.0.listed in
    let looks = c.last_below-earlier.ensures.looks digits (omega (arith, small, used, ap length c.deref-2.ensures.value, ap (λ (u : Paged g.row.T.Denot). length u.entries) c.self.view_is)) in
    omega (arith, looks)

pub returns-in_default-entry-clause-missed : goal.returns-in_default-entry-clause-missed
returns-in_default-entry-clause-missed g c = λ none. (
  λ digits small.
      let lists = lists_of c.self.inside.blocks.items in
      let own = c.block.ensures ∙ ap (λ bs. list_at (lists_of bs) (c.args.place / 512)) c.deref.ensures.value in
      c.last_below-own.ensures.missed c.in_default.is digits (omega (arith, small, ap length own, block_length g.T.Placed.place_of lists (c.args.place / 512), ap (λ (u : Paged g.row.T.Denot). length u.entries) c.self.view_is)),
  λ digits small.
      let lists = lists_of c.self.inside.blocks.items in
      let used = used_few g.T.Placed.place_of lists c.self.inside.used.items c.self.invariant.0.rising c.self.invariant.0.listed in
      let looks = c.last_below-earlier.ensures.missed c.in_default-entry.is digits (omega (arith, small, used, ap length c.deref-2.ensures.value, ap (λ (u : Paged g.row.T.Denot). length u.entries) c.self.view_is)) in
      omega (arith, looks),
)

pub returns-clause-nearest : goal.returns-clause-nearest
returns-clause-nearest g c =
    let place = g.T.Placed.place_of in
    let lists = lists_of c.self.inside.blocks.items in
    let used = c.self.inside.used.items in
    let k : ℕ = c.args.place / 512 in
    let p : ℕ = c.args.place + 1 in
    let earlier = c.in-Some-entry.used in
    let own = c.block.ensures ∙ ap (λ bs. list_at (lists_of bs) k) c.deref.ensures.value in
    let none = subst (λ l. IsLastBelow place l p None) own
    (subst (λ o. IsLastBelow place c.block.result.now p o) c.in_default.is (subst (λ n. IsLastBelow place c.block.result.now (n + 1) c.last_below-own.result.entry) c.from.ensures c.last_below-own.ensures.nearest)) in
    let found = subst (λ l. IsLastBelow itself l k (Some earlier)) c.deref-2.ensures.value
    (subst (λ o. IsLastBelow itself c.deref-2.result.now k o) c.in-Some-entry.is (subst (λ n. IsLastBelow itself c.deref-2.result.now n c.last_below-earlier.result.entry) c.from-2.ensures c.last_below-earlier.ensures.nearest)) in
    let there = c.block-2.ensures ∙ ap (λ bs. list_at (lists_of bs) earlier) c.deref-3.ensures.value in
    let some : 0 < length (list_at lists earlier) = listed_some earlier earlier (list_at lists earlier) (sym (c.self.invariant.0.listed earlier) ∙ found.1) in
    let last : ℕ = length c.block-2.result.now - 1 in
    let x = c.last_in.result in
    subst (λ (u : Paged g.row.T.Denot). IsLastBelow place u.entries p (Some x)) c.self.view_is
    (last_earlier place lists used k p earlier last x (omega arith) (omega arith) c.self.invariant.0.each c.self.invariant.0.listed none found
    (omega (arith, some, ap length there)) (c.last_in.ensures ∙ ap (λ l. get_or l last x) there))

pub returns-clause-looks : goal.returns-clause-looks
returns-clause-looks g c = λ digits small.
    let lists = lists_of c.self.inside.blocks.items in
    let own = c.block.ensures ∙ ap (λ bs. list_at (lists_of bs) (c.args.place / 512)) c.deref.ensures.value in
    let looks = c.last_below-own.ensures.missed c.in_default.is digits (omega (arith, small, ap length own, block_length g.T.Placed.place_of lists (c.args.place / 512), ap (λ (u : Paged g.row.T.Denot). length u.entries) c.self.view_is)) in
    omega (arith, looks)

pub returns-clause-blocks : goal.returns-clause-blocks
returns-clause-blocks g c = λ digits small.
    let lists = lists_of c.self.inside.blocks.items in
    let used = used_few g.T.Placed.place_of lists c.self.inside.used.items c.self.invariant.0.rising c.self.invariant.0.listed in
    let looks = c.last_below-earlier.ensures.looks digits (omega (arith, small, used, ap length c.deref-2.ensures.value, ap (λ (u : Paged g.row.T.Denot). length u.entries) c.self.view_is)) in
    omega (arith, looks)
