use Rattle.std.proofs.Common.{◌≡◌, ◌<◌, ℕ, [], length, get_or, refl, sym, ◌∙◌, arith}
use Rattle.ds_places.specs.Pages.{lists_of, list_at}
use Rattle.ds_places.proofs.BlockLaws.{other_blocks, block_here, rooms_stay, count_lists, same_count, unlisted, listed_inside, walk_init, walk_step, walk_all}
use Rattle.ds_places.proofs.blocks.clear_blocks.Goals as goal

pub blocks-2-init : goal.blocks-2-init
blocks-2-init g c =
    record {
      walked = walk_init (λ k xs. xs ≡ []) (lists_of c.args.blocks.now.items) c.args.used.now c.requires.rising (λ k none. unlisted k (list_at (lists_of c.args.blocks.now.items) k) (sym (c.requires.listed k) ∙ none)) 0
          (λ k lt. absurd (omega arith));
      room = refl;
    }

pub index_mut-requires : goal.index_mut-requires
index_mut-requires g c =
    let there = listed_inside (lists_of c.args.blocks.now.items) c.args.used.now c.blocks-2.i c.requires.rising c.requires.listed (omega (arith, c.blocks-2-test.true)) in
    omega (arith, there.1, count_lists c.args.blocks.now.items, same_count c.args.blocks.now.items c.blocks-2.blocks.items c.blocks-2.invariant.room, c.blocks-2.blocks.ok)

pub blocks-2-preserved : goal.blocks-2-preserved
blocks-2-preserved g c =
    let old = c.args.blocks.now.items in
    let now = c.blocks-2.blocks.items in
    let used = c.args.used.now in
    let x : ℕ = get_or used c.blocks-2.i 0 in
    let v = c.clear.new.self in
    let lt : c.blocks-2.i < length used = omega (arith, c.blocks-2-test.true) in
    let there = listed_inside (lists_of old) used c.blocks-2.i c.requires.rising c.requires.listed lt in
    let inside : x < length now = omega (arith, there.1, count_lists old, same_count old now c.blocks-2.invariant.room) in
    record {
      walked = walk_step (λ k xs. xs ≡ []) (lists_of old) used c.requires.rising (λ k none. unlisted k (list_at (lists_of old) k) (sym (c.requires.listed k) ∙ none))
          (lists_of now) _ c.blocks-2.i lt c.blocks-2.invariant.walked (other_blocks now x v) (block_here now x v inside ∙ c.clear.ensures.items);
      room = rooms_stay now x v c.index_mut.result.now c.index_mut.ensures.value c.clear.ensures.capacity ∙ c.blocks-2.invariant.room;
    }

pub returns-clause-empty : goal.returns-clause-empty
returns-clause-empty g c =
    let old = c.args.blocks.now.items in
    let used = c.args.used.now in
    let end : c.blocks-2.i ≡ length used = omega (arith, c.blocks-2-test.false, c.blocks-2.auto.i-end) in
    walk_all (λ k xs. xs ≡ []) (lists_of old) used c.requires.rising (λ k none. unlisted k (list_at (lists_of old) k) (sym (c.requires.listed k) ∙ none))
    (lists_of c.blocks-2.blocks.items) (rw (← end) c.blocks-2.invariant.walked)
