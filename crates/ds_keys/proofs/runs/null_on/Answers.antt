use Rattle.std.proofs.Common.{ℕ, ◌<◌, length, sym, ◌∙◌, ap, arith}
use Rattle.ds_codec.specs.Character.{Glyph}
use Rattle.ds_codec.specs.declared.cell.Cell.TheVariants.{Char}
use Rattle.ds_screen.specs.Ring.{ring_on}
use Rattle.ds_screen.specs.Picture.{Picture, blank, ruled}
use Rattle.ds_keys.specs.Kept.{so_far}
use Rattle.ds_keys.proofs.RunLaws.{with_cells, store_none, filled_far}
use Rattle.ds_keys.proofs.runs.null_on.Goals as goal

pub returns-then-count-eq0 : goal.returns-then-count-eq0
returns-then-count-eq0 g c =
    let v : Picture = c.args.screen.now in
    store_none v c.args.from (λ p. blank)
    ∙ ap (λ k. with_cells v (ruled (length v.cells) (so_far v.cells c.args.from k (λ p. blank)))) (sym c.if-count-eq0.true)

pub returns : goal.returns
returns g c =
    let v : Picture = c.args.screen.now in
    let n : ℕ = length v.cells in
    let some : 0 < c.args.count = omega arith in
    let there = c.forward.ensures.on ∙ ap (λ m. ring_on m c.args.from c.args.count) c.position_count-n.ensures.count in
    filled_far v c.repeat_char.new.self c.args.from c.args.count c.forward.result c.null.result c.requires.inside some c.requires.few there c.repeat_char.ensures.changed
    ∙ ap (λ (x : Glyph). with_cells v (ruled n (so_far v.cells c.args.from c.args.count (λ p. Char x)))) c.null.ensures
