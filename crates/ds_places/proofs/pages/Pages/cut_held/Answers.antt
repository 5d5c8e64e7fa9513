use Rattle.std.proofs.Common.{◌<◌, ◌-◌, ◌/◌, length, sym, ◌∙◌, ap, subst, arith, cond, leb, ltb, ◌&&◌, None}
use Rattle.ds_places.specs.Places.{at_place}
use Rattle.ds_places.proofs.EditLaws.{cut_within}
use Rattle.ds_places.specs.Pages.{Paged, entries_in, lists_of, list_at, itself}
use Rattle.ds_places.proofs.BlockLaws.{kept_blocks, same_lists}
use Rattle.ds_places.proofs.PageLaws.{rises_flat, cut_own, cut_flat, cut_listed, uncut_crossed, is_empty, some_there}
use Rattle.ds_places.proofs.pages.Pages.cut_held.Goals as goal
use Rattle.ds_places.proofs.pages.Pages.cut_held.Goals.{then-is_empty, else-is_empty, then-is_empty-2, else-is_empty-2}

pub invariant_of-self : goal.invariant_of-self
invariant_of-self g c =
    let place = g.T.Placed.place_of in
    let from = c.args.from in
    let to = c.args.to in
    let old = c.self.inside.blocks.items in
    let new = c.cut_places.new.blocks.items in
    let order : from < to = c.requires in
    let first = c.block.ensures ∙ ap (λ bs. list_at (lists_of bs) (from / 512)) c.deref-2.ensures.value in
    let last = c.block-2.ensures ∙ ap (λ bs. list_at (lists_of bs) ((to - 1) / 512)) c.deref-3.ensures.value in (
      kept_blocks place c.self.inside.room old new c.self.inside.used.items c.cut.new.entries.items c.self.invariant.0 c.cut_places.ensures.room
          (λ k. cut_own place from to (lists_of old) (lists_of new) k (c.self.invariant.0.each k) (c.cut_places.ensures.cut k) (c.cut_places.ensures.rising k))
          c.cut.ensures.rising
          (cut_listed place from to c.if-is_empty.low c.if-is_empty-2.high (lists_of old) (lists_of new) c.self.inside.used.items c.cut.new.entries.items order c.self.invariant.0.each
          c.self.invariant.0.listed c.cut_places.ensures.cut
          (elim c.if-is_empty.branch [ then-is_empty w ↦ omega (arith, w.low-is) | else-is_empty w ↦ omega (arith, w.low-is) ])
          (λ le. elim c.if-is_empty.branch [
            | then-is_empty w ↦ sym first ∙ is_empty c.block.result.now (sym c.is_empty.ensures ∙ w.if-is_empty.true)
            | else-is_empty w ↦ absurd (omega (arith, w.low-is, le))
          ])
          (λ lt. elim c.if-is_empty.branch [
            | then-is_empty w ↦ absurd (omega (arith, w.low-is, lt))
            | else-is_empty w ↦ (w.low-is, subst (λ l. 0 < length l) first (some_there c.block.result.now (sym c.is_empty.ensures ∙ w.if-is_empty.false)))
          ])
          (elim c.if-is_empty-2.branch [ then-is_empty-2 w ↦ omega (arith, w.high-is) | else-is_empty-2 w ↦ omega (arith, w.high-is) ])
          (λ lt. elim c.if-is_empty-2.branch [
            | then-is_empty-2 w ↦ sym last ∙ is_empty c.block-2.result.now (sym c.is_empty-2.ensures ∙ w.if-is_empty-2.true)
            | else-is_empty-2 w ↦ absurd (omega (arith, w.high-is, lt))
          ])
          (λ le. elim c.if-is_empty-2.branch [
            | then-is_empty-2 w ↦ absurd (omega (arith, w.high-is, le))
            | else-is_empty-2 w ↦ (w.high-is, subst (λ l. 0 < length l) last (some_there c.block-2.result.now (sym c.is_empty-2.ensures ∙ w.if-is_empty-2.false)))
          ])
          c.cut.ensures.cut),
      omega (arith, same_lists old new c.cut_places.ensures.room, c.self.invariant.1, c.cut.ensures.room),
    )

pub invariant_of-self-else-low-high : goal.invariant_of-self-else-low-high
invariant_of-self-else-low-high g c =
    let place = g.T.Placed.place_of in
    let from = c.args.from in
    let to = c.args.to in
    let old = c.self.inside.blocks.items in
    let new = c.cut_places.new.blocks.items in
    let order : from < to = c.requires in
    let first = c.block.ensures ∙ ap (λ bs. list_at (lists_of bs) (from / 512)) c.deref-2.ensures.value in
    let last = c.block-2.ensures ∙ ap (λ bs. list_at (lists_of bs) ((to - 1) / 512)) c.deref-3.ensures.value in (
      kept_blocks place c.self.inside.room old new c.self.inside.used.items c.self.inside.used.items c.self.invariant.0 c.cut_places.ensures.room
          (λ k. cut_own place from to (lists_of old) (lists_of new) k (c.self.invariant.0.each k) (c.cut_places.ensures.cut k) (c.cut_places.ensures.rising k))
          c.self.invariant.0.rising
          (cut_listed place from to c.if-is_empty.low c.if-is_empty-2.high (lists_of old) (lists_of new) c.self.inside.used.items c.self.inside.used.items order c.self.invariant.0.each
          c.self.invariant.0.listed c.cut_places.ensures.cut
          (elim c.if-is_empty.branch [ then-is_empty w ↦ omega (arith, w.low-is) | else-is_empty w ↦ omega (arith, w.low-is) ])
          (λ le. elim c.if-is_empty.branch [
            | then-is_empty w ↦ sym first ∙ is_empty c.block.result.now (sym c.is_empty.ensures ∙ w.if-is_empty.true)
            | else-is_empty w ↦ absurd (omega (arith, w.low-is, le))
          ])
          (λ lt. elim c.if-is_empty.branch [
            | then-is_empty w ↦ absurd (omega (arith, w.low-is, lt))
            | else-is_empty w ↦ (w.low-is, subst (λ l. 0 < length l) first (some_there c.block.result.now (sym c.is_empty.ensures ∙ w.if-is_empty.false)))
          ])
          (elim c.if-is_empty-2.branch [ then-is_empty-2 w ↦ omega (arith, w.high-is) | else-is_empty-2 w ↦ omega (arith, w.high-is) ])
          (λ lt. elim c.if-is_empty-2.branch [
            | then-is_empty-2 w ↦ sym last ∙ is_empty c.block-2.result.now (sym c.is_empty-2.ensures ∙ w.if-is_empty-2.true)
            | else-is_empty-2 w ↦ absurd (omega (arith, w.high-is, lt))
          ])
          (λ le. elim c.if-is_empty-2.branch [
            | then-is_empty-2 w ↦ absurd (omega (arith, w.high-is, le))
            | else-is_empty-2 w ↦ (w.high-is, subst (λ l. 0 < length l) last (some_there c.block-2.result.now (sym c.is_empty-2.ensures ∙ w.if-is_empty-2.false)))
          ])
          (uncut_crossed itself c.if-is_empty.low c.if-is_empty-2.high c.self.inside.used.items (omega (arith, c.if-low-high.false)))),
      omega (arith, same_lists old new c.cut_places.ensures.room, c.self.invariant.1),
    )

pub returns-then-low-high-clause-cut : goal.returns-then-low-high-clause-cut
returns-then-low-high-clause-cut g c = λ q.
    let place = g.T.Placed.place_of in
    let old = lists_of c.self.inside.blocks.items in
    let new = lists_of c.cut_places.new.blocks.items in
    cut_flat place c.args.from c.args.to old new c.self.invariant.0.each
    (λ k. cut_own place c.args.from c.args.to old new k (c.self.invariant.0.each k) (c.cut_places.ensures.cut k) (c.cut_places.ensures.rising k)) c.cut_places.ensures.cut q
    ∙ ap (λ (u : Paged g.row.T.Denot). cond (leb c.args.from q && ltb q c.args.to) None (at_place place u.entries q)) c.self.view_is

pub returns-else-low-high-clause-cut : goal.returns-else-low-high-clause-cut
returns-else-low-high-clause-cut g c = λ q.
    let place = g.T.Placed.place_of in
    let old = lists_of c.self.inside.blocks.items in
    let new = lists_of c.cut_places.new.blocks.items in
    cut_flat place c.args.from c.args.to old new c.self.invariant.0.each
    (λ k. cut_own place c.args.from c.args.to old new k (c.self.invariant.0.each k) (c.cut_places.ensures.cut k) (c.cut_places.ensures.rising k)) c.cut_places.ensures.cut q
    ∙ ap (λ (u : Paged g.row.T.Denot). cond (leb c.args.from q && ltb q c.args.to) None (at_place place u.entries q)) c.self.view_is

pub returns-then-low-high-clause-rising : goal.returns-then-low-high-clause-rising
returns-then-low-high-clause-rising g c =
    let place = g.T.Placed.place_of in
    let old = lists_of c.self.inside.blocks.items in
    let new = lists_of c.cut_places.new.blocks.items in
    rises_flat place new (λ k. cut_own place c.args.from c.args.to old new k (c.self.invariant.0.each k) (c.cut_places.ensures.cut k) (c.cut_places.ensures.rising k))

pub returns-else-low-high-clause-rising : goal.returns-else-low-high-clause-rising
returns-else-low-high-clause-rising g c =
    let place = g.T.Placed.place_of in
    let old = lists_of c.self.inside.blocks.items in
    let new = lists_of c.cut_places.new.blocks.items in
    rises_flat place new (λ k. cut_own place c.args.from c.args.to old new k (c.self.invariant.0.each k) (c.cut_places.ensures.cut k) (c.cut_places.ensures.rising k))

pub returns-then-low-high-clause-inside : goal.returns-then-low-high-clause-inside
returns-then-low-high-clause-inside g c = λ places within.
    cut_within g.T.Placed.place_of c.args.self.now.entries (entries_in (lists_of c.cut_places.new.blocks.items)) places (λ q. leb c.args.from q && ltb q c.args.to) within
    (returns-then-low-high-clause-cut g c)

pub returns-else-low-high-clause-inside : goal.returns-else-low-high-clause-inside
returns-else-low-high-clause-inside g c = λ places within.
    cut_within g.T.Placed.place_of c.args.self.now.entries (entries_in (lists_of c.cut_places.new.blocks.items)) places (λ q. leb c.args.from q && ltb q c.args.to) within
    (returns-else-low-high-clause-cut g c)
