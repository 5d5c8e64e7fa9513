use Rattle.std.proofs.Common.{◌≡◌, ◌<◌, ◌≤◌, ℕ, [], ◌++◌, length, get_or, true, refl, sym, ◌∙◌, ap, arith}
use Rattle.std.specs.Result.{is_ok}
use Rattle.std.proofs.lemmas.Bool.{cond-true}
use Rattle.std.proofs.lemmas.List.{length-set}
use Rattle.ds_places.specs.Pages.{lists_of, rooms_of, list_at}
use Rattle.ds_places.proofs.BlockLaws.{other_blocks, block_here, block_read, room_read, room_more, count_lists, unlisted, bound_low, walk_init, walk_step, walk_all}
use Rattle.ds_places.proofs.PageLaws.{block_few}
use Rattle.ds_places.proofs.blocks.copy_blocks.Goals as goal

pub blocks-2-init : goal.blocks-2-init
blocks-2-init g c =
    record {
      walked = walk_init (λ k xs. xs ≡ list_at (lists_of c.args.others.now) k) (lists_of c.args.blocks.now.items) c.args.used.now c.requires.rising
          (λ k none. c.requires.empty k ∙ sym (unlisted k (list_at (lists_of c.args.others.now) k) (sym (c.requires.listed k) ∙ none))) 0 (λ k lt. absurd (omega arith));
      count = refl;
      roomy = λ k lt. c.requires.roomy k (omega (arith, lt, count_lists c.args.blocks.now.items));
    }

pub index_mut-requires : goal.index_mut-requires
index_mut-requires g c =
    let there : get_or c.args.used.now c.blocks-2.i 0 < length (lists_of c.args.blocks.now.items) = c.requires.below c.blocks-2.i (omega (arith, c.blocks-2-test.true)) in
    omega (arith, there, count_lists c.args.blocks.now.items, c.blocks-2.invariant.count, c.blocks-2.blocks.ok)

pub unwrap-requires : goal.unwrap-requires
unwrap-requires g c =
    let old = c.args.blocks.now.items in
    let now = c.blocks-2.blocks.items in
    let used = c.args.used.now in
    let x : ℕ = get_or used c.blocks-2.i 0 in
    let was = c.index_mut.result.now in
    let lt : c.blocks-2.i < length used = omega (arith, c.blocks-2-test.true) in
    let there : x < length (lists_of old) = c.requires.below c.blocks-2.i lt in
    let inside : x < length now = omega (arith, there, count_lists old, c.blocks-2.invariant.count) in
    let none : was.items ≡ [] = block_read now x was inside c.index_mut.ensures.value ∙ c.blocks-2.invariant.walked.left x (bound_low used c.blocks-2.i c.requires.rising lt) ∙ c.requires.empty x in
    let room : 512 ≤ get_or (rooms_of now) x 0 = c.blocks-2.invariant.roomy x (omega (arith, there, count_lists old)) in
    let few : length (list_at (lists_of c.args.others.now) x) ≤ 512 = block_few g.T.Placed.place_of x (list_at (lists_of c.args.others.now) x) (c.requires.each x) in
    c.extend_from_slice.ensures.succeeds
    (omega (arith, ap length none, was.ok, room, room_read now x was inside c.index_mut.ensures.value, few, ap length c.block-entries.ensures))

pub blocks-2-preserved : goal.blocks-2-preserved
blocks-2-preserved g c =
    let old = c.args.blocks.now.items in
    let now = c.blocks-2.blocks.items in
    let used = c.args.used.now in
    let x : ℕ = get_or used c.blocks-2.i 0 in
    let was = c.index_mut.result.now in
    let v = c.extend_from_slice.new.self in
    let entries = c.block-entries.result.now in
    let lt : c.blocks-2.i < length used = omega (arith, c.blocks-2-test.true) in
    let there : x < length (lists_of old) = c.requires.below c.blocks-2.i lt in
    let inside : x < length now = omega (arith, there, count_lists old, c.blocks-2.invariant.count) in
    let none : was.items ≡ [] = block_read now x was inside c.index_mut.ensures.value ∙ c.blocks-2.invariant.walked.left x (bound_low used c.blocks-2.i c.requires.rising lt) ∙ c.requires.empty x in
    let room : 512 ≤ get_or (rooms_of now) x 0 = c.blocks-2.invariant.roomy x (omega (arith, there, count_lists old)) in
    let ok : is_ok c.extend_from_slice.result ≡ true = ap is_ok c.unwrap.ensures in
    let copied : v.items ≡ list_at (lists_of c.args.others.now) x =
    c.extend_from_slice.ensures.items ∙ cond-true (is_ok c.extend_from_slice.result) (was.items ++ entries) was.items ok ∙ ap (λ l. l ++ entries) none ∙ c.block-entries.ensures in
    record {
      walked = walk_step (λ k xs. xs ≡ list_at (lists_of c.args.others.now) k) (lists_of old) used c.requires.rising
          (λ k none. c.requires.empty k ∙ sym (unlisted k (list_at (lists_of c.args.others.now) k) (sym (c.requires.listed k) ∙ none)))
          (lists_of now) _ c.blocks-2.i lt c.blocks-2.invariant.walked (other_blocks now x v) (block_here now x v inside ∙ copied);
      count = length-set now x v ∙ c.blocks-2.invariant.count;
      roomy = λ k below. room_more now x v k inside (omega (arith, room, room_read now x was inside c.index_mut.ensures.value, c.extend_from_slice.ensures.capacity)) (c.blocks-2.invariant.roomy k below);
    }

pub returns-clause-copied : goal.returns-clause-copied
returns-clause-copied g c =
    let old = c.args.blocks.now.items in
    let used = c.args.used.now in
    let end : c.blocks-2.i ≡ length used = omega (arith, c.blocks-2-test.false, c.blocks-2.auto.i-end) in
    walk_all (λ k xs. xs ≡ list_at (lists_of c.args.others.now) k) (lists_of old) used c.requires.rising
    (λ k none. c.requires.empty k ∙ sym (unlisted k (list_at (lists_of c.args.others.now) k) (sym (c.requires.listed k) ∙ none)))
    (lists_of c.blocks-2.blocks.items) (rw (← end) c.blocks-2.invariant.walked)

pub returns-clause-count : goal.returns-clause-count
returns-clause-count g c = count_lists c.blocks-2.blocks.items ∙ c.blocks-2.invariant.count ∙ sym (count_lists c.args.blocks.now.items)

pub returns-clause-roomy : goal.returns-clause-roomy
returns-clause-roomy g c = λ k lt. c.blocks-2.invariant.roomy k (omega (arith, lt, count_lists c.args.blocks.now.items))
