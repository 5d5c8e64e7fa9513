use Rattle.std.proofs.Common.{◌≡◌, ◌<◌, ◌-◌, ◌+◌, length, get_or, drop, sym, ◌∙◌, ap, arith}
use Rattle.std.specs.Prelude.{slice_get}
use Rattle.ds_places.specs.Pages.{Paged, entries_in, lists_of, list_at}
use Rattle.ds_places.proofs.BlockLaws.{block_read, count_lists}
use Rattle.ds_places.proofs.PageLaws.{get_here, get_later, none_after}
use Rattle.ds_places.proofs.pages.Pages.get.Goals as goal

pub returns-then-left-len : goal.returns-then-left-len
returns-then-left-len g c =
    let blocks = c.self.inside.blocks.items in
    let i = c.blocks-2.i in
    let v = c.index-entries.result.now in
    let lt : i < length blocks = omega (arith, c.blocks-2-test.true, c.len-i-end.ensures, c.self.inside.blocks.ok) in
    let is = block_read blocks i v lt c.index-entries.ensures in
    let x = c.index.result.now in
    get_here (lists_of blocks) i c.blocks-2.left x (omega (arith, lt, count_lists blocks)) (omega (arith, c.if-left-len.true, c.len.ensures, v.ok, ap length is))
    (c.index.ensures ∙ ap (λ l. get_or l c.blocks-2.left x) is)
    ∙ sym c.blocks-2.invariant ∙ ap (λ (u : Paged g.row.T.Denot). slice_get u.entries c.args.index) c.self.view_is

pub blocks-2-preserved : goal.blocks-2-preserved
blocks-2-preserved g c =
    let blocks = c.self.inside.blocks.items in
    let i = c.blocks-2.i in
    let v = c.index-entries.result.now in
    let lt : i < length blocks = omega (arith, c.blocks-2-test.true, c.len-i-end.ensures, c.self.inside.blocks.ok) in
    let is = block_read blocks i v lt c.index-entries.ensures in
    let count : c.len-left.result ≡ length (list_at (lists_of blocks) i) = omega (arith, c.len-left.ensures, v.ok, ap length is) in
    c.blocks-2.invariant ∙ get_later (lists_of blocks) i c.blocks-2.left (omega (arith, lt, count_lists blocks)) (omega (arith, c.if-left-len.false, c.len.ensures, v.ok, ap length is))
    ∙ ap (λ n. slice_get (entries_in (drop (i + 1) (lists_of blocks))) (c.blocks-2.left - n)) (sym count)

pub returns : goal.returns
returns g c =
    let blocks = c.self.inside.blocks.items in
    let end = none_after (lists_of blocks) c.blocks-2.i (omega (arith, c.blocks-2-test.false, c.len-i-end.ensures, c.self.inside.blocks.ok, count_lists blocks)) in
    sym (sym (ap (λ (u : Paged g.row.T.Denot). slice_get u.entries c.args.index) c.self.view_is) ∙ c.blocks-2.invariant ∙ ap (λ l. slice_get l c.blocks-2.left) end)
