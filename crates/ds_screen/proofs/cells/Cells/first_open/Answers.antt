use Rattle.std.proofs.Common.{◌≡◌, ◌<◌, List, length, sym, ◌∙◌, ap, arith, below_more}
use Rattle.ds_codec.specs.declared.cell.Cell.{Cell}
use Rattle.ds_screen.specs.Ring.{ring_back}
use Rattle.ds_screen.specs.Fields.{ruling_bits, ruling_after, is_open_under, is_open}
use Rattle.ds_screen.proofs.RingLaws.{on-zero}
use Rattle.ds_screen.proofs.RuledLaws.{place_more, place_before}
use Rattle.ds_screen.proofs.FieldLaws.{ruling_more}
use Rattle.ds_screen.proofs.RulingLaws.{open_at, open_nowhere}
use Rattle.ds_screen.proofs.cells.Cells.first_open.Goals as goal

pub steps-init : goal.steps-init
steps-init g c =
    let cells : List Cell = g.Self.Cells.content c.args.self.now in
    record {
      at = sym (on-zero (length cells) c.args.from c.requires);
      inside = c.requires;
      ruled_by = c.ruling-bits.ensures ∙ ap (ruling_bits cells) (c.previous.ensures.back ∙ ap (λ n. ring_back n c.args.from 1) c.len-n.ensures);
      misses = λ d below. absurd (omega arith);
    }

pub cell-cell-requires : goal.cell-cell-requires
cell-cell-requires g c = c.steps.invariant.inside

pub returns-then-is_open_cell-clause-first : goal.returns-then-is_open_cell-clause-first
returns-then-is_open_cell-clause-first g c =
    let cells : List Cell = g.Self.Cells.content c.args.self.now in
    let few : c.steps.steps < length cells = omega (arith, c.len-n.ensures, c.steps-test.true) in
    let bits : c.ruled_on-bits.result ≡ ruling_bits cells c.steps.at =
    c.ruled_on-bits.ensures ∙ ap (λ x. ruling_after x c.cell-cell.result) c.steps.invariant.ruled_by
    ∙ ap (ruling_after (ruling_bits cells (ring_back (length cells) c.steps.at 1))) c.cell-cell.ensures ∙ sym (ruling_more cells c.steps.at c.steps.invariant.inside) in
    let opens : c.is_open_cell.result ≡ is_open cells c.steps.at =
    c.is_open_cell.ensures ∙ ap (λ x. is_open_under x c.cell-cell.result) bits ∙ ap (is_open_under (ruling_bits cells c.steps.at)) c.cell-cell.ensures in
    open_at cells c.args.from c.steps.steps c.steps.at few c.steps.invariant.at c.steps.invariant.misses (sym opens ∙ c.if-is_open_cell.true)

pub returns-then-is_open_cell-clause-inside : goal.returns-then-is_open_cell-clause-inside
returns-then-is_open_cell-clause-inside g c = c.steps.invariant.inside

pub next-at-requires : goal.next-at-requires
next-at-requires g c = omega (arith, c.steps.invariant.inside, c.len-n.ensures)

pub steps-preserved : goal.steps-preserved
steps-preserved g c =
    let cells : List Cell = g.Self.Cells.content c.args.self.now in
    let few : c.steps.steps < length cells = omega (arith, c.len-n.ensures, c.steps-test.true) in
    let bits : c.ruled_on-bits.result ≡ ruling_bits cells c.steps.at =
    c.ruled_on-bits.ensures ∙ ap (λ x. ruling_after x c.cell-cell.result) c.steps.invariant.ruled_by
    ∙ ap (ruling_after (ruling_bits cells (ring_back (length cells) c.steps.at 1))) c.cell-cell.ensures ∙ sym (ruling_more cells c.steps.at c.steps.invariant.inside) in
    let opens : c.is_open_cell.result ≡ is_open cells c.steps.at =
    c.is_open_cell.ensures ∙ ap (λ x. is_open_under x c.cell-cell.result) bits ∙ ap (is_open_under (ruling_bits cells c.steps.at)) c.cell-cell.ensures in
    record {
      at = place_more (length cells) c.len-n.result c.args.from c.steps.steps c.steps.at c.next-at.result c.requires few c.len-n.ensures c.steps.invariant.at c.next-at.ensures.on;
      inside = omega (arith, c.next-at.ensures.inside, c.len-n.ensures);
      ruled_by = bits ∙ ap (ruling_bits cells) (sym (place_before (length cells) c.len-n.result c.steps.at c.next-at.result c.steps.invariant.inside c.len-n.ensures c.next-at.ensures.on));
      misses = below_more _ _ c.steps.invariant.misses (ap (is_open cells) (sym c.steps.invariant.at) ∙ sym opens ∙ c.if-is_open_cell.false);
    }

pub returns-clause-first : goal.returns-clause-first
returns-clause-first g c =
    open_nowhere (g.Self.Cells.content c.args.self.now) c.args.from (λ d few. c.steps.invariant.misses d (omega (arith, c.steps-test.false, c.len-n.ensures)))
