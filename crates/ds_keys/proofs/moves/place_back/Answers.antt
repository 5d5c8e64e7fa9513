use Rattle.std.proofs.Common.{◌≡◌, ℕ, ◌+◌, ◌<◌, ◌≤◌, List, length, sym, ◌∙◌, ap, arith, below_more}
use Rattle.ds_codec.specs.declared.cell.Cell.{Cell}
use Rattle.ds_screen.specs.Ring.{ring_back}
use Rattle.ds_screen.proofs.RingLaws.{back-zero}
use Rattle.ds_keys.specs.Moves.{is_field_start}
use Rattle.ds_keys.proofs.SearchLaws.{start_test, back_found, back_none, back_run, back_place, back_in, two_inside, start_place, home_place, NoStartBack}
use Rattle.ds_keys.proofs.moves.place_back.Goals as goal

pub attributes-init : goal.attributes-init
attributes-init g c =
    let n : ℕ = length c.args.screen.now.cells in
    let count = c.position_count-n.ensures.count in
    let one : c.backward.result ≡ ring_back n c.args.from 1 = c.backward.ensures.back ∙ ap (λ m. ring_back m c.args.from 1) count in
    let two : c.backward-at.result ≡ ring_back n (ring_back n c.args.from 1) 1 = c.backward-at.ensures.back ∙ ap (λ m. ring_back m c.backward.result 1) count ∙ ap (λ q. ring_back n q 1) one in
    record {
      at_steps = two ∙ sym (back-zero n _);
      inside = omega (arith, c.backward-at.ensures.inside, count);
      few = omega arith;
      misses = λ d below. absurd (omega arith);
    }

pub returns-then-gone-n-clause-start : goal.returns-then-gone-n-clause-start
returns-then-gone-n-clause-start g c =
    let cells : List Cell = c.args.screen.now.cells in
    let gone : ℕ = c.attributes.gone in
    let few : gone + c.characters_back-run.result ≤ length cells = omega (arith, c.characters_back-run.ensures.within, c.position_count-n.ensures.count, c.attributes-test.true) in
    let misses : NoStartBack cells c.args.from (gone + c.characters_back-run.result) =
    back_run cells c.args.from gone c.attributes.at c.characters_back-run.result c.requires few c.attributes.invariant.at_steps c.characters_back-run.ensures.characters c.attributes.invariant.misses in
    back_none cells c.args.from (λ d below. misses d (omega (arith, c.position_count-n.ensures.count, c.if-gone-n.true)))

pub returns-then-starts_field-clause-start : goal.returns-then-starts_field-clause-start
returns-then-starts_field-clause-start g c =
    let cells : List Cell = c.args.screen.now.cells in
    let n : ℕ = length cells in
    let gone : ℕ = c.attributes.gone in
    let run : ℕ = c.characters_back-run.result in
    let count = c.position_count-n.ensures.count in
    let few : gone + run ≤ n = omega (arith, c.characters_back-run.ensures.within, count, c.attributes-test.true) in
    let less : gone + run < n = omega (arith, few, count, c.if-gone-n.false) in
    let misses : NoStartBack cells c.args.from (gone + run) =
    back_run cells c.args.from gone c.attributes.at run c.requires few c.attributes.invariant.at_steps c.characters_back-run.ensures.characters c.attributes.invariant.misses in
    let stands = back_in n c.position_count-n.result c.args.from gone c.attributes.at run c.backward-stop.result c.requires few count c.attributes.invariant.at_steps c.backward-stop.ensures.back in
    let place = start_place n c.position_count-n.result c.args.from (gone + run) c.backward-stop.result c.forward-place.result c.requires less count stands c.forward-place.ensures.on in
    let home = home_place n c.position_count-n.result c.backward-stop.result c.forward-place.result (omega (arith, c.backward-stop.ensures.inside, count)) count c.forward-place.ensures.on in
    let test = start_test cells c.forward-place.result c.backward-stop.result c.cell.result c.cell-in-attributes.result c.starts_field.result home c.cell.ensures c.cell-in-attributes.ensures c.starts_field.ensures in
    back_found cells c.args.from (gone + run) c.forward-place.result less place misses (sym test ∙ c.if-starts_field.true)

pub attributes-preserved : goal.attributes-preserved
attributes-preserved g c =
    let cells : List Cell = c.args.screen.now.cells in
    let n : ℕ = length cells in
    let gone : ℕ = c.attributes.gone in
    let run : ℕ = c.characters_back-run.result in
    let count = c.position_count-n.ensures.count in
    let few : gone + run ≤ n = omega (arith, c.characters_back-run.ensures.within, count, c.attributes-test.true) in
    let less : gone + run < n = omega (arith, few, count, c.if-gone-n.false) in
    let misses : NoStartBack cells c.args.from (gone + run) =
    back_run cells c.args.from gone c.attributes.at run c.requires few c.attributes.invariant.at_steps c.characters_back-run.ensures.characters c.attributes.invariant.misses in
    let stands = back_in n c.position_count-n.result c.args.from gone c.attributes.at run c.backward-stop.result c.requires few count c.attributes.invariant.at_steps c.backward-stop.ensures.back in
    let place = start_place n c.position_count-n.result c.args.from (gone + run) c.backward-stop.result c.forward-place.result c.requires less count stands c.forward-place.ensures.on in
    let home = home_place n c.position_count-n.result c.backward-stop.result c.forward-place.result (omega (arith, c.backward-stop.ensures.inside, count)) count c.forward-place.ensures.on in
    let test = start_test cells c.forward-place.result c.backward-stop.result c.cell.result c.cell-in-attributes.result c.starts_field.result home c.cell.ensures c.cell-in-attributes.ensures c.starts_field.ensures in
    record {
      at_steps = back_place n c.position_count-n.result (ring_back n (ring_back n c.args.from 1) 1) (gone + run) c.backward-stop.result c.backward-at-in-attributes.result
          (two_inside n c.args.from c.requires) less count stands c.backward-at-in-attributes.ensures.back;
      inside = omega (arith, c.backward-at-in-attributes.ensures.inside, count);
      few = omega (arith, less);
      misses = below_more _ _ misses (ap (is_field_start cells) (sym place) ∙ sym test ∙ c.if-starts_field.false);
    }

pub returns-clause-start : goal.returns-clause-start
returns-clause-start g c =
    back_none c.args.screen.now.cells c.args.from (λ d below. c.attributes.invariant.misses d (omega (arith, c.position_count-n.ensures.count, c.attributes-test.false)))
