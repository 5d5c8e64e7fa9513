use Rattle.std.proofs.Common.{◌≡◌, length, ltb, refl, sym, ◌∙◌, ap, arith}
use Rattle.std.proofs.lemmas.Bool.{cond-false, le-ltb}
use Rattle.std.proofs.lemmas.List.{length-set}
use Rattle.ds_screen.specs.Picture.{cell_at, ruled}
use Rattle.ds_screen.specs.Reset.{after_reset}
use Rattle.ds_screen.specs.Planes.{Held}
use Rattle.ds_screen.proofs.HalvingLaws.{held_attribute}
use Rattle.ds_screen.proofs.IndexLaws.{reset_reads, reset_more, reset_all}
use Rattle.ds_screen.proofs.plane_cells.reset_listed.Goals as goal

pub listed-init : goal.listed-init
listed-init c = record { room = refl; whole = refl; each = λ p lt. sym (cond-false (ltb p 0) (after_reset c.args.which (cell_at c.args.planes.now.cells p)) (cell_at c.args.planes.now.cells p) (le-ltb p 0 (omega arith))) }

pub cell-requires : goal.cell-requires
cell-requires c =
    let there = held_attribute c.args.index.now.all c.args.planes.now.cells c.in-Some.q c.in-Some.q c.requires c.in-Some.ensures.1 in
    omega (arith, there.2, c.listed.invariant.whole)

pub put-requires : goal.put-requires
put-requires c =
    let there = held_attribute c.args.index.now.all c.args.planes.now.cells c.in-Some.q c.in-Some.q c.requires c.in-Some.ensures.1 in
    omega (arith, there.2, c.listed.invariant.whole)

pub overflow_add-at : goal.overflow_add-at
overflow_add-at c =
    let there = held_attribute c.args.index.now.all c.args.planes.now.cells c.in-Some.q c.in-Some.q c.requires c.in-Some.ensures.1 in
    omega (arith, there.2, c.len-places.ensures.count, c.len-places.type_inv)

pub listed-preserved : goal.listed-preserved
listed-preserved c =
    let xs = c.args.index.now.all in
    let old = c.args.planes.now.cells in
    let q = c.in-Some.q in
    let there = held_attribute xs old q q c.requires c.in-Some.ensures.1 in
    let stored = ap (λ (u : Held). u.cells) c.put.ensures.stored in
    let is : c.reset_cell-cell.result ≡ after_reset c.args.which (cell_at old q) =
    c.reset_cell-cell.ensures ∙ ap (after_reset c.args.which) (c.cell.ensures ∙ reset_reads old c.listed.planes.cells c.args.which c.listed.at q c.in-Some.ensures.0 there.2 c.listed.invariant.each) in
    record {
      room = ap (λ (u : Held). u.room) c.put.ensures.stored ∙ c.listed.invariant.room;
      whole = ap length stored ∙ length-set c.listed.planes.cells q c.reset_cell-cell.result ∙ c.listed.invariant.whole;
      each = λ p below. ap (λ l. cell_at l p) stored
          ∙ reset_more xs old c.listed.planes.cells c.args.which c.listed.at q c.reset_cell-cell.result c.requires c.in-Some.ensures c.listed.invariant.whole is c.listed.invariant.each p below;
    }

pub listed-smaller : goal.listed-smaller
listed-smaller c =
    let there = held_attribute c.args.index.now.all c.args.planes.now.cells c.in-Some.q c.in-Some.q c.requires c.in-Some.ensures.1 in
    omega (arith, there.2, c.in-Some.ensures.0)

pub returns : goal.returns
returns c =
    let xs = c.args.index.now.all in
    let old = c.args.planes.now.cells in
    let cells = reset_all xs old c.listed.planes.cells c.args.which c.listed.at c.requires c.in_default.ensures c.listed.invariant.whole c.listed.invariant.each in
    record {
      reset =
          ap (λ l. let h : Held = record { cells = l; room = c.listed.planes.room } in h) cells
          ∙ ap (λ r. let h : Held = record { cells = ruled (length old) (λ p. after_reset c.args.which (cell_at old p)); room = r } in h) c.listed.invariant.room;
    }
