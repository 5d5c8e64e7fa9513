use Rattle.std.proofs.Common.{◌≡◌, List, ℕ, [], sym, ap, subst, arith, ◌∙◌}
use Rattle.ds_places.specs.Places.{at_place, IsRising}
use Rattle.ds_places.specs.Pages.{lists_of, list_at, listed_if, itself, IsBlock}
use Rattle.ds_places.proofs.BlockLaws.{kept_blocks, same_lists}
use Rattle.ds_places.proofs.PageLaws.{empty_flat, empty_block}
use Rattle.ds_places.proofs.pages.Pages.clear.Goals as goal

pub invariant_of-self : goal.invariant_of-self
invariant_of-self g c =
    let place = g.T.Placed.place_of in
    let old = c.self.inside.blocks.items in
    let new = c.clear_blocks.new.blocks.items in
    let none : (k : ℕ) → list_at (lists_of new) k ≡ [] = c.clear_blocks.ensures.empty in (
      kept_blocks place c.self.inside.room old new c.self.inside.used.items c.clear.new.self.items c.self.invariant.0 c.clear_blocks.ensures.room
          (λ k. subst (IsBlock place k) (sym (none k)) (empty_block place k))
          (subst (IsRising itself) (sym c.clear.ensures.items) tt)
          (λ k. ap (λ (l : List ℕ). at_place itself l k) c.clear.ensures.items ∙ sym (ap (listed_if k) (none k))),
      omega (arith, same_lists old new c.clear_blocks.ensures.room, c.self.invariant.1, c.clear.ensures.capacity),
    )

pub returns-clause-empty : goal.returns-clause-empty
returns-clause-empty g c = empty_flat g.T.Placed.place_of (lists_of c.clear_blocks.new.blocks.items) c.clear_blocks.ensures.empty
