use Rattle.std.proofs.Common.{◌≡◌, ◌<◌, ℕ, ◌+◌, cond, eqb, List, length, set, refl, sym, ◌∙◌, ap, arith}
use Rattle.std.proofs.lemmas.Bool.{cond-true, cond-false}
use Rattle.ds_codec.specs.declared.cell.Cell.{Cell}
use Rattle.ds_codec.specs.declared.cell.Cell.TheVariants.{Char}
use Rattle.ds_screen.specs.Ring.{ring_back, ring_distance}
use Rattle.ds_screen.specs.Picture.{blank, cell_at}
use Rattle.ds_screen.specs.Fields.{ruling_bits, ruling_after, is_open_under, is_open}
use Rattle.ds_screen.proofs.RingLaws.{on-zero}
use Rattle.ds_screen.proofs.RuledLaws.{walk_none, walk_step, walk_sees, length_walked, place_more, place_before}
use Rattle.ds_screen.proofs.FieldLaws.{ruling_more}
use Rattle.ds_screen.proofs.EraseLaws.{nulled_open, erase_done}
use Rattle.ds_screen.proofs.cells.Cells.erase.Goals as goal
use Rattle.ds_screen.proofs.cells.Cells.erase.Goals.{then-is_open_cell, else-is_open_cell}

pub steps-init : goal.steps-init
steps-init g c =
    let old : List Cell = g.Self.Cells.content c.args.self.now in
    record {
      stored = walk_none old c.args.b (nulled_open old);
      whole = refl;
      at = sym (on-zero (length old) c.args.b c.requires.inside);
      inside = c.requires.inside;
      ruled_by = c.ruling-bits.ensures ∙ ap (ruling_bits old) (c.previous.ensures.back ∙ ap (λ n. ring_back n c.args.b 1) c.len-n.ensures);
      room = refl;
    }

pub cell-cell-requires : goal.cell-cell-requires
cell-cell-requires g c = omega (arith, c.steps.invariant.whole, c.steps.invariant.inside)

pub put-requires : goal.put-requires
put-requires g c = omega (arith, c.steps.invariant.whole, c.steps.invariant.inside)

pub steps-preserved : goal.steps-preserved
steps-preserved g c =
    let old : List Cell = g.Self.Cells.content c.args.self.now in
    let now : List Cell = g.Self.Cells.content c.steps.self in
    let after : List Cell = g.Self.Cells.content c.if-is_open_cell.self in
    let at : ℕ = c.steps.at in
    let few : c.steps.steps < length old = omega (arith, c.reach-steps-end.ensures.within, c.len-n.ensures, c.steps-test.true) in
    let reads : c.cell-cell.result ≡ cell_at old at =
    c.cell-cell.ensures ∙ walk_sees old c.args.b c.steps.steps at (nulled_open old) now c.requires.inside few c.steps.invariant.at c.steps.invariant.stored in
    let bits : c.ruled_on-bits.result ≡ ruling_bits old at =
    c.ruled_on-bits.ensures ∙ ap (λ x. ruling_after x c.cell-cell.result) c.steps.invariant.ruled_by
    ∙ ap (ruling_after (ruling_bits old (ring_back (length old) at 1))) reads ∙ sym (ruling_more old at c.steps.invariant.inside) in
    let opens : c.is_open_cell.result ≡ is_open old at =
    c.is_open_cell.ensures ∙ ap (λ x. is_open_under x c.cell-cell.result) bits ∙ ap (is_open_under (ruling_bits old at)) reads in
    let writes : after ≡ cond c.is_open_cell.result (set now at blank) now =
    elim c.if-is_open_cell.branch [
      | then-is_open_cell w ↦ ap g.Self.Cells.content w.self-is ∙ w.put.ensures.stored ∙ ap (λ x. set now at (Char x)) w.null.ensures ∙ sym (cond-true c.is_open_cell.result _ _ w.if-is_open_cell.true)
      | else-is_open_cell w ↦ ap g.Self.Cells.content w.self-is ∙ sym (cond-false c.is_open_cell.result _ _ w.if-is_open_cell.false)
    ] in
    let stored = walk_step old c.args.b c.steps.steps at (nulled_open old) c.is_open_cell.result blank now after c.requires.inside few
    c.steps.invariant.at c.steps.invariant.stored (ap (λ t. cond t blank (cell_at old at)) (sym opens)) writes in
    let place = place_more (length old) c.len-n.result c.args.b c.steps.steps at c.next-at.result c.requires.inside few c.len-n.ensures c.steps.invariant.at c.next-at.ensures.on in
    record {
      stored = stored;
      whole = length_walked old c.args.b (c.steps.steps + 1) (nulled_open old) after stored;
      at = place;
      inside = omega (arith, c.next-at.ensures.inside, c.len-n.ensures);
      ruled_by = bits ∙ ap (ruling_bits old) (sym (place_before (length old) c.len-n.result at c.next-at.result c.steps.invariant.inside c.len-n.ensures c.next-at.ensures.on));
      room = elim c.if-is_open_cell.branch [
        | then-is_open_cell w ↦ ap g.Self.Cells.capacity w.self-is ∙ w.put.ensures.room ∙ c.steps.invariant.room
        | else-is_open_cell w ↦ ap g.Self.Cells.capacity w.self-is ∙ c.steps.invariant.room
      ];
    }

pub returns-clause-stored : goal.returns-clause-stored
returns-clause-stored g c =
    let old : List Cell = g.Self.Cells.content c.args.self.now in
    let all : c.reach-steps-end.result ≡ c.steps.steps = omega arith in
    c.steps.invariant.stored
    ∙ erase_done old c.args.b c.args.stop c.steps.steps c.requires.inside
    (sym all ∙ c.reach-steps-end.ensures.steps ∙ ap (λ n. cond (eqb c.args.b c.args.stop) n (ring_distance n c.args.b c.args.stop)) c.len-n.ensures)
