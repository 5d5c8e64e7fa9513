use Rattle.std.proofs.Common.{◌≡◌, ◌<◌, List, length, sym, ◌∙◌, ap, arith, below_more}
use Rattle.ds_codec.specs.declared.cell.Cell.{Cell}
use Rattle.ds_screen.specs.Starts.{is_field_start}
use Rattle.ds_screen.proofs.RingLaws.{on-zero}
use Rattle.ds_screen.proofs.RuledLaws.{place_more}
use Rattle.ds_screen.proofs.StartLaws.{start_test, start_at, start_nowhere}
use Rattle.ds_screen.proofs.cells.Cells.start_ahead.Goals as goal

pub steps-init : goal.steps-init
steps-init g c =
    let cells : List Cell = g.Self.Cells.content c.args.self.now in
    record { place = sym (on-zero (length cells) c.args.from c.requires); inside = c.requires; misses = λ d below. absurd (omega arith) }

pub steps-preserved : goal.steps-preserved
steps-preserved g c =
    let cells : List Cell = g.Self.Cells.content c.args.self.now in
    let few : c.steps.steps < length cells = omega (arith, c.len-n.ensures, c.steps-test.true) in
    let there = place_more (length cells) c.len-n.result c.args.from c.steps.steps c.steps.place c.next-place.result c.requires few c.len-n.ensures c.steps.invariant.place c.next-place.ensures.on in
    let test : c.starts_field.result ≡ is_field_start cells c.next-place.result =
    start_test cells c.len-n.result c.steps.place c.next-place.result c.cell-before.result c.cell.result c.starts_field.result c.steps.invariant.inside c.len-n.ensures c.next-place.ensures.on
    c.cell-before.ensures c.cell.ensures c.starts_field.ensures in
    record {
      place = there;
      inside = omega (arith, c.next-place.ensures.inside, c.len-n.ensures);
      misses = below_more _ _ c.steps.invariant.misses (ap (is_field_start cells) (sym there) ∙ sym test ∙ c.if-starts_field.false);
    }

pub returns-then-starts_field-clause-start : goal.returns-then-starts_field-clause-start
returns-then-starts_field-clause-start g c =
    let cells : List Cell = g.Self.Cells.content c.args.self.now in
    let few : c.steps.steps < length cells = omega (arith, c.len-n.ensures, c.steps-test.true) in
    let there = place_more (length cells) c.len-n.result c.args.from c.steps.steps c.steps.place c.next-place.result c.requires few c.len-n.ensures c.steps.invariant.place c.next-place.ensures.on in
    let test : c.starts_field.result ≡ is_field_start cells c.next-place.result =
    start_test cells c.len-n.result c.steps.place c.next-place.result c.cell-before.result c.cell.result c.starts_field.result c.steps.invariant.inside c.len-n.ensures c.next-place.ensures.on
    c.cell-before.ensures c.cell.ensures c.starts_field.ensures in
    there ∙ sym (start_at cells c.args.from c.steps.steps few c.steps.invariant.misses (ap (is_field_start cells) (sym there) ∙ sym test ∙ c.if-starts_field.true))

pub returns-clause-start : goal.returns-clause-start
returns-clause-start g c =
    sym (start_nowhere (g.Self.Cells.content c.args.self.now) c.args.from (λ d few. c.steps.invariant.misses d (omega (arith, c.steps-test.false, c.len-n.ensures))))
