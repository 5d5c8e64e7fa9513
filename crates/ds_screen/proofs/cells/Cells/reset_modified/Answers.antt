use Rattle.std.proofs.Common.{◌≡◌, ◌<◌, ℕ, ◌+◌, true, List, length, refl, sym, ◌∙◌, ap, arith}
use Rattle.ds_codec.specs.declared.cell.Cell.{Cell}
use Rattle.ds_screen.specs.Picture.{cell_at, ruled}
use Rattle.ds_screen.specs.Reset.{after_reset}
use Rattle.ds_screen.proofs.RuledLaws.{walked_cell, walk_none, walk_step, walk_sees, walk_all, length_walked, on_from_zero}
use Rattle.ds_screen.proofs.cells.Cells.reset_modified.Goals as goal

pub places-init : goal.places-init
places-init g c =
    let old : List Cell = g.Self.Cells.content c.args.self.now in
    record { stored = walk_none old 0 (λ q. after_reset c.args.which (cell_at old q)); whole = refl; end = c.len-p-end.ensures; room = refl }

pub cell-requires : goal.cell-requires
cell-requires g c = omega (arith, c.places.invariant.whole, c.places.invariant.end, c.places-test.true)

pub put-requires : goal.put-requires
put-requires g c = omega (arith, c.places.invariant.whole, c.places.invariant.end, c.places-test.true)

pub places-preserved : goal.places-preserved
places-preserved g c =
    let old : List Cell = g.Self.Cells.content c.args.self.now in
    let now : List Cell = g.Self.Cells.content c.places.self in
    let after : List Cell = g.Self.Cells.content c.put.new.self in
    let p : ℕ = c.places.p in
    let lt : p < length old = omega (arith, c.places.invariant.end, c.places-test.true) in
    let some : 0 < length old = omega arith in
    let reads : c.cell.result ≡ cell_at old p = c.cell.ensures ∙ walk_sees old 0 p p (λ q. after_reset c.args.which (cell_at old q)) now some lt (on_from_zero (length old) p lt) c.places.invariant.stored in
    let says : after_reset c.args.which (cell_at old p) ≡ c.reset_cell-cell.result = ap (after_reset c.args.which) (sym reads) ∙ sym c.reset_cell-cell.ensures in
    let stored : after ≡ ruled (length old) (walked_cell old 0 (p + 1) (λ q. after_reset c.args.which (cell_at old q))) =
    walk_step old 0 p p (λ q. after_reset c.args.which (cell_at old q)) true c.reset_cell-cell.result now after some lt
    (on_from_zero (length old) p lt) c.places.invariant.stored says c.put.ensures.stored in
    record {
      stored = stored;
      whole = length_walked old 0 (p + 1) (λ q. after_reset c.args.which (cell_at old q)) after stored;
      end = c.places.invariant.end;
      room = c.put.ensures.room ∙ c.places.invariant.room;
    }

pub returns-clause-stored : goal.returns-clause-stored
returns-clause-stored g c =
    let old : List Cell = g.Self.Cells.content c.args.self.now in
    let all : c.places.p ≡ length old = omega (arith, c.places.invariant.end) in
    c.places.invariant.stored ∙ ap (λ k. ruled (length old) (walked_cell old 0 k (λ q. after_reset c.args.which (cell_at old q)))) all
    ∙ walk_all old 0 (λ q. after_reset c.args.which (cell_at old q)) (λ p lt. omega arith)
