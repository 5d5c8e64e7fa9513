use Rattle.std.proofs.Common.{◌∙◌, arith, ap, map}
use Rattle.ds_places.specs.Pages.{Paged, lists_of}
use Rattle.ds_places.proofs.BlockLaws.{kept_blocks, same_lists}
use Rattle.ds_places.proofs.PageLaws.{changed_block, changed_listed, changed_flat}
use Rattle.ds_places.proofs.pages.Pages.change_each.Goals as goal

pub invariant_of-self : goal.invariant_of-self
invariant_of-self g c =
    let place = g.T.Placed.place_of in
    let f = g.C.Change.changed c.args.change.now in
    let old = c.self.inside.blocks.items in
    let new = c.change_blocks.new.blocks.items in (
      kept_blocks place c.self.inside.room old new c.self.inside.used.items c.self.inside.used.items c.self.invariant.0 c.change_blocks.ensures.room
          (λ k. changed_block place f c.requires (lists_of old) (lists_of new) k (c.self.invariant.0.each k) (c.change_blocks.ensures.changed k))
          c.self.invariant.0.rising
          (λ k. c.self.invariant.0.listed k ∙ changed_listed f (lists_of old) (lists_of new) k (c.change_blocks.ensures.changed k)),
      omega (arith, same_lists old new c.change_blocks.ensures.room, c.self.invariant.1),
    )

pub returns-clause-changed : goal.returns-clause-changed
returns-clause-changed g c =
    let f = g.C.Change.changed c.args.change.now in
    let old = c.self.inside.blocks.items in
    let new = c.change_blocks.new.blocks.items in
    changed_flat f (lists_of old) (lists_of new) (same_lists old new c.change_blocks.ensures.room) c.change_blocks.ensures.changed
    ∙ ap (λ (u : Paged g.row.T.Denot). map f u.entries) c.self.view_is
