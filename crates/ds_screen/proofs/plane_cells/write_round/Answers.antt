use Rattle.std.proofs.Common.{◌≡◌, ◌≤◌, ◌+◌, ◌%◌, ℕ, length, refl, sym, ◌∙◌, ap, arith}
use Rattle.std.proofs.Math.Nat.{mod-eq_of_lt}
use Rattle.ds_screen.specs.Picture.{ruled}
use Rattle.ds_screen.specs.Orders.{text_cell}
use Rattle.ds_screen.specs.Planes.{Held}
use Rattle.ds_screen.proofs.RuledLaws.{length-ruled}
use Rattle.ds_screen.proofs.RunLaws.{run_cell, run_none, run_all}
use Rattle.ds_screen.proofs.IndexLaws.{part_written, part_next, part_round}
use Rattle.ds_screen.proofs.plane_cells.write_round.Goals as goal

pub parts-init : goal.parts-init
parts-init c =
    let old = c.args.planes.now.cells in
    record {
      room = refl;
      whole = refl;
      stored = run_none old c.args.b c.args.run.now;
      at = sym (ap (λ x. x % length old) (omega arith) ∙ mod-eq_of_lt c.requires.inside);
      inside = c.requires.inside;
      few = omega arith;
    }

pub overflow_sub-n : goal.overflow_sub-n
overflow_sub-n c = omega (arith, c.parts.invariant.inside, c.len-n.ensures.count)

pub write-requires-clause-inside : goal.write-requires-clause-inside
write-requires-clause-inside c = omega (arith, c.parts.invariant.inside, c.parts.invariant.whole, c.len-n.ensures.count, c.min-count.ensures)

pub parts-preserved-then-at-count : goal.parts-preserved-then-at-count
parts-preserved-then-at-count c =
    let old = c.args.planes.now.cells in
    let n : ℕ = length old in
    let count = c.min-count.result in
    let fits : c.parts.at + count ≤ n = omega (arith, c.if-at-count.true, c.len-n.ensures.count) in
    let stored : c.write.new.self.cells ≡ ruled n (run_cell old c.args.b c.args.run.now (c.parts.done + count)) =
    ap (λ (u : Held). u.cells) c.write.ensures.written
    ∙ part_written old c.parts.planes.cells c.args.b c.args.run.now c.parts.done c.parts.at count c.parts.invariant.stored c.parts.invariant.at fits in
    record {
      room = ap (λ (u : Held). u.room) c.write.ensures.written ∙ c.parts.invariant.room;
      whole = ap length stored ∙ length-ruled n (run_cell old c.args.b c.args.run.now (c.parts.done + count));
      stored = stored;
      at = part_next n c.args.b c.parts.done c.parts.at count c.parts.invariant.at (omega (arith, c.if-at-count.true, c.len-n.ensures.count));
      inside = omega (arith, c.if-at-count.true, c.len-n.ensures.count);
      few = omega (arith, c.parts.invariant.few, c.min-count.ensures);
    }

pub parts-smaller : goal.parts-smaller
parts-smaller c = omega (arith, c.parts-test.true, c.min-count.ensures, c.parts.invariant.inside, c.len-n.ensures.count)

pub parts-preserved : goal.parts-preserved
parts-preserved c =
    let old = c.args.planes.now.cells in
    let n : ℕ = length old in
    let count = c.min-count.result in
    let full : c.parts.at + count ≡ n = omega (arith, c.if-at-count.false, c.len-n.ensures.count, c.min-count.ensures, c.parts.invariant.inside) in
    let stored : c.write.new.self.cells ≡ ruled n (run_cell old c.args.b c.args.run.now (c.parts.done + count)) =
    ap (λ (u : Held). u.cells) c.write.ensures.written
    ∙ part_written old c.parts.planes.cells c.args.b c.args.run.now c.parts.done c.parts.at count c.parts.invariant.stored c.parts.invariant.at (omega (arith, full)) in
    record {
      room = ap (λ (u : Held). u.room) c.write.ensures.written ∙ c.parts.invariant.room;
      whole = ap length stored ∙ length-ruled n (run_cell old c.args.b c.args.run.now (c.parts.done + count));
      stored = stored;
      at = part_round n c.args.b c.parts.done c.parts.at count (omega (arith, c.requires.inside)) c.parts.invariant.at full;
      inside = omega (arith, c.requires.inside);
      few = omega (arith, c.parts.invariant.few, c.min-count.ensures);
    }

pub returns-clause-written : goal.returns-clause-written
returns-clause-written c =
    let old = c.args.planes.now.cells in
    let all : c.parts.done ≡ length c.args.run.now = omega (arith, c.parts-test.false, c.parts.invariant.few) in
    let cells = c.parts.invariant.stored ∙ ap (λ k. ruled (length old) (run_cell old c.args.b c.args.run.now k)) all ∙ run_all old c.args.b c.args.run.now in
    ap (λ l. let h : Held = record { cells = l; room = c.parts.planes.room } in h) cells
    ∙ ap (λ r. let h : Held = record { cells = ruled (length old) (text_cell old c.args.b c.args.run.now); room = r } in h) c.parts.invariant.room

pub returns-clause-after : goal.returns-clause-after
returns-clause-after c =
    let all : c.parts.done ≡ length c.args.run.now = omega (arith, c.parts-test.false, c.parts.invariant.few) in
    c.parts.invariant.at ∙ ap (λ k. (c.args.b + k) % length c.args.planes.now.cells) all

pub returns-clause-inside : goal.returns-clause-inside
returns-clause-inside c = c.parts.invariant.inside
