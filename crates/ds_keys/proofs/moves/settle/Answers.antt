use Rattle.std.proofs.Common.{◌≡◌, ℕ, ◌<◌, true, false, List, length, sym, ◌∙◌, ap, arith, below_more}
use Rattle.ds_codec.specs.declared.cell.Cell.{Cell}
use Rattle.ds_screen.specs.Picture.{cell_at}
use Rattle.ds_screen.specs.Fields.{is_character}
use Rattle.ds_screen.proofs.RingLaws.{on-zero}
use Rattle.ds_screen.proofs.RuledLaws.{place_more}
use Rattle.ds_keys.specs.Moves.{stops_cursor}
use Rattle.ds_keys.proofs.SearchLaws.{stop_found, stop_none, stops_there, goes_ahead}
use Rattle.ds_keys.proofs.moves.settle.Goals as goal

pub steps-init : goal.steps-init
steps-init g c = record { at_steps = sym (on-zero _ _ c.requires); inside = c.requires; misses = λ d below. absurd (omega arith) }

pub returns-in-Char-clause-settles : goal.returns-in-Char-clause-settles
returns-in-Char-clause-settles g c =
    let cells : List Cell = c.args.screen.now.cells in
    let at : ℕ = c.steps.at in
    let few : c.steps.steps < length cells = omega (arith, c.position_count-n.ensures.count) in
    let stops : stops_cursor (cell_at cells at) ≡ true = ap stops_cursor (sym c.cell.ensures ∙ c.in-Char.is) in
    let is : is_character (cell_at cells at) ≡ true = ap is_character (sym c.cell.ensures ∙ c.in-Char.is) in
    sym (stop_found cells c.args.from c.steps.steps at few c.steps.invariant.at_steps c.steps.invariant.misses stops ∙ stops_there cells at is)

pub returns-then-auto_skip-clause-settles : goal.returns-then-auto_skip-clause-settles
returns-then-auto_skip-clause-settles g c =
    let cells : List Cell = c.args.screen.now.cells in
    let at : ℕ = c.steps.at in
    let few : c.steps.steps < length cells = omega (arith, c.position_count-n.ensures.count) in
    let stops : stops_cursor (cell_at cells at) ≡ true = ap stops_cursor (sym c.cell.ensures ∙ c.in-Field.is) ∙ sym c.auto_skip.ensures ∙ c.if-auto_skip.true in
    let is : is_character (cell_at cells at) ≡ false = ap is_character (sym c.cell.ensures ∙ c.in-Field.is) in
    c.start_ahead.ensures.start ∙ sym (stop_found cells c.args.from c.steps.steps at few c.steps.invariant.at_steps c.steps.invariant.misses stops ∙ goes_ahead cells at is)

pub steps-preserved : goal.steps-preserved
steps-preserved g c =
    let cells : List Cell = c.args.screen.now.cells in
    let n : ℕ = length cells in
    let at : ℕ = c.steps.at in
    let few : c.steps.steps < n = omega (arith, c.position_count-n.ensures.count) in
    let goes : stops_cursor (cell_at cells at) ≡ false = ap stops_cursor (sym c.cell.ensures ∙ c.in-Field.is) ∙ sym c.auto_skip.ensures ∙ c.if-auto_skip.false in
    record {
      at_steps = place_more n c.position_count-n.result c.args.from c.steps.steps at c.forward-at.result c.requires few c.position_count-n.ensures.count c.steps.invariant.at_steps c.forward-at.ensures.on;
      inside = omega (arith, c.forward-at.ensures.inside, c.position_count-n.ensures.count);
      misses = below_more _ _ c.steps.invariant.misses (ap (λ q. stops_cursor (cell_at cells q)) (sym c.steps.invariant.at_steps) ∙ goes);
    }

pub returns-clause-settles : goal.returns-clause-settles
returns-clause-settles g c =
    stop_none c.args.screen.now.cells c.args.from (λ d below. c.steps.invariant.misses d (omega (arith, c.position_count-n.ensures.count, c.steps-test.false)))
