use Rattle.std.proofs.Common.{◌≡◌, ◌<◌, ◌+◌, length, drop, sym, ◌∙◌, ap, arith}
use Rattle.ds_places.specs.Pages.{Paged, entries_in, lists_of, list_at}
use Rattle.ds_places.proofs.BlockLaws.{block_read, count_lists}
use Rattle.ds_places.proofs.PageLaws.{block_few, count_more, none_after}
use Rattle.ds_places.proofs.pages.Pages.len.Goals as goal

pub overflow_add-total : goal.overflow_add-total
overflow_add-total g c =
    let blocks = c.self.inside.blocks.items in
    let i = c.blocks-2.i in
    let v = c.index.result.now in
    let lt : i < length blocks = omega (arith, c.blocks-2-test.true, c.len-i-end.ensures, c.self.inside.blocks.ok) in
    let is = block_read blocks i v lt c.index.ensures in
    let few = block_few g.T.Placed.place_of i (list_at (lists_of blocks) i) (c.self.invariant.0.each i) in
    omega (arith, c.len-total.ensures, v.ok, ap length is, few, c.blocks-2.invariant.few, lt, count_lists blocks, c.self.invariant.0.enough)

pub blocks-2-preserved : goal.blocks-2-preserved
blocks-2-preserved g c =
    let blocks = c.self.inside.blocks.items in
    let i = c.blocks-2.i in
    let v = c.index.result.now in
    let lt : i < length blocks = omega (arith, c.blocks-2-test.true, c.len-i-end.ensures, c.self.inside.blocks.ok) in
    let is = block_read blocks i v lt c.index.ensures in
    let few = block_few g.T.Placed.place_of i (list_at (lists_of blocks) i) (c.self.invariant.0.each i) in
    let count : c.len-total.result ≡ length (list_at (lists_of blocks) i) = omega (arith, c.len-total.ensures, v.ok, ap length is) in
    record {
      counted = count_more (lists_of blocks) i c.blocks-2.total (omega (arith, lt, count_lists blocks)) c.blocks-2.invariant.counted
          ∙ ap (λ n. c.blocks-2.total + n + length (entries_in (drop (i + 1) (lists_of blocks)))) (sym count);
      few = omega (arith, count, few, c.blocks-2.invariant.few);
    }

pub returns : goal.returns
returns g c =
    let blocks = c.self.inside.blocks.items in
    let end = none_after (lists_of blocks) c.blocks-2.i (omega (arith, c.blocks-2-test.false, c.len-i-end.ensures, c.self.inside.blocks.ok, count_lists blocks)) in
    let all : length (entries_in (lists_of blocks)) ≡ length c.args.self.now.entries = ap (λ (u : Paged g.row.T.Denot). length u.entries) c.self.view_is in
    omega (arith, c.blocks-2.invariant.counted, ap length end, all)
