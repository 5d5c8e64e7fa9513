use Rattle.std.proofs.Common.{◌≡◌, ◌<◌, ◌+◌, ◌-◌, ◌/◌, ◌∙◌, ◌&&◌, ℕ, leb, ltb, cond, None, length, get_or, refl, sym, ap, subst, arith}
use Rattle.ds_places.specs.Places.{at_place, IsRising}
use Rattle.ds_places.specs.Pages.{itself, lists_of, list_at}
use Rattle.ds_places.proofs.SearchLaws.{Parts}
use Rattle.ds_places.proofs.EditLaws.{parts_order}
use Rattle.ds_places.proofs.BlockLaws.{bound, bound_low, other_blocks, block_here, block_read, rooms_stay, count_lists, same_count, unlisted, listed_inside, walk_init, walk_step}
use Rattle.ds_places.proofs.PageLaws.{IsCut, cut_empty, cut_before, cut_done, bound_below}
use Rattle.ds_places.proofs.blocks.cut_blocks.Goals as goal

pub blocks-2-init : goal.blocks-2-init
blocks-2-init g c =
    let place = g.T.Placed.place_of in
    let lists = lists_of c.args.blocks.now.items in
    let low = bound_below place c.args.used.now (c.args.from / 512) c.rank-start.result (λ j d lt before. c.rank-start.ensures.parts.0 j d (omega arith) before) c.rank-start.ensures.within in
    record {
      walked = walk_init (IsCut place c.args.from c.args.to lists) lists c.args.used.now c.requires.rising
          (λ k none. cut_empty place c.args.from c.args.to lists k (unlisted k (list_at lists k) (sym (c.requires.listed k) ∙ none))) (bound c.args.used.now c.rank-start.result)
          (λ k lt. cut_before place c.args.from c.args.to lists k (c.requires.each k) (omega (arith, lt, low)));
      room = refl;
    }

pub index_mut-requires : goal.index_mut-requires
index_mut-requires g c =
    let lt : c.blocks-2.i < length c.args.used.now = omega (arith, c.blocks-2-test.true, c.rank_from-end.ensures.within) in
    let there = listed_inside (lists_of c.args.blocks.now.items) c.args.used.now c.blocks-2.i c.requires.rising c.requires.listed lt in
    omega (arith, there.1, count_lists c.args.blocks.now.items, same_count c.args.blocks.now.items c.blocks-2.blocks.items c.blocks-2.invariant.room, c.blocks-2.blocks.ok)

pub cut-requires-clause-rising : goal.cut-requires-clause-rising
cut-requires-clause-rising g c =
    let old = c.args.blocks.now.items in
    let now = c.blocks-2.blocks.items in
    let used = c.args.used.now in
    let x : ℕ = get_or used c.blocks-2.i 0 in
    let lt : c.blocks-2.i < length used = omega (arith, c.blocks-2-test.true, c.rank_from-end.ensures.within) in
    let there = listed_inside (lists_of old) used c.blocks-2.i c.requires.rising c.requires.listed lt in
    let inside : x < length now = omega (arith, there.1, count_lists old, same_count old now c.blocks-2.invariant.room) in
    let was = block_read now x c.index_mut.result.now inside c.index_mut.ensures.value ∙ c.blocks-2.invariant.walked.left x (bound_low used c.blocks-2.i c.requires.rising lt) in
    subst (IsRising g.T.Placed.place_of) (sym was) (c.requires.each x).rising

pub blocks-2-preserved : goal.blocks-2-preserved
blocks-2-preserved g c =
    let place = g.T.Placed.place_of in
    let old = c.args.blocks.now.items in
    let now = c.blocks-2.blocks.items in
    let used = c.args.used.now in
    let x : ℕ = get_or used c.blocks-2.i 0 in
    let v = c.cut.new.entries in
    let lt : c.blocks-2.i < length used = omega (arith, c.blocks-2-test.true, c.rank_from-end.ensures.within) in
    let there = listed_inside (lists_of old) used c.blocks-2.i c.requires.rising c.requires.listed lt in
    let inside : x < length now = omega (arith, there.1, count_lists old, same_count old now c.blocks-2.invariant.room) in
    let was = block_read now x c.index_mut.result.now inside c.index_mut.ensures.value ∙ c.blocks-2.invariant.walked.left x (bound_low used c.blocks-2.i c.requires.rising lt) in
    let here = block_here now x v inside in
    record {
      walked = walk_step (IsCut place c.args.from c.args.to (lists_of old)) (lists_of old) used c.requires.rising
          (λ k none. cut_empty place c.args.from c.args.to (lists_of old) k (unlisted k (list_at (lists_of old) k) (sym (c.requires.listed k) ∙ none)))
          (lists_of now) _ c.blocks-2.i lt c.blocks-2.invariant.walked (other_blocks now x v) (
            subst (IsRising place) (sym here) c.cut.ensures.rising,
            λ q. ap (λ l. at_place place l q) here ∙ c.cut.ensures.cut q ∙ ap (λ l. cond (leb c.args.from q && ltb q c.args.to) None (at_place place l q)) was,
          );
      room = rooms_stay now x v c.index_mut.result.now c.index_mut.ensures.value c.cut.ensures.room ∙ c.blocks-2.invariant.room;
    }

pub returns-clause-cut : goal.returns-clause-cut
returns-clause-cut g c = λ k q.
    let used = c.args.used.now in
    let order = parts_order itself used (c.args.from / 512) ((c.args.to - 1) / 512 + 1) c.rank-start.result c.rank_from-end.result (omega (arith, c.requires.order)) c.rank-start.ensures.parts c.rank_from-end.ensures.parts c.rank-start.ensures.within in
    let end : c.blocks-2.i ≡ c.rank_from-end.result = omega (arith, c.blocks-2-test.false, c.blocks-2.auto.i-end, order) in
    (cut_done g.T.Placed.place_of c.args.from c.args.to c.blocks-2.i (lists_of c.args.blocks.now.items) (lists_of c.blocks-2.blocks.items) used c.requires.rising c.requires.each c.requires.listed
    (subst (Parts itself used ((c.args.to - 1) / 512 + 1)) (sym end) c.rank_from-end.ensures.parts) (omega (arith, end, c.rank_from-end.ensures.within)) c.blocks-2.invariant.walked k).1 q

pub returns-clause-rising : goal.returns-clause-rising
returns-clause-rising g c = λ k.
    let used = c.args.used.now in
    let order = parts_order itself used (c.args.from / 512) ((c.args.to - 1) / 512 + 1) c.rank-start.result c.rank_from-end.result (omega (arith, c.requires.order)) c.rank-start.ensures.parts c.rank_from-end.ensures.parts c.rank-start.ensures.within in
    let end : c.blocks-2.i ≡ c.rank_from-end.result = omega (arith, c.blocks-2-test.false, c.blocks-2.auto.i-end, order) in
    (cut_done g.T.Placed.place_of c.args.from c.args.to c.blocks-2.i (lists_of c.args.blocks.now.items) (lists_of c.blocks-2.blocks.items) used c.requires.rising c.requires.each c.requires.listed
    (subst (Parts itself used ((c.args.to - 1) / 512 + 1)) (sym end) c.rank_from-end.ensures.parts) (omega (arith, end, c.rank_from-end.ensures.within)) c.blocks-2.invariant.walked k).0
