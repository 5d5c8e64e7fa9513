use Rattle.std.proofs.Common.{◌≡◌, ◌+◌, ◌-◌, ℕ, true, false, Bool, List, sym, ◌∙◌, ap, arith}
use Rattle.ds_codec.specs.declared.cell.Cell.{Cell}
use Rattle.ds_screen.specs.Ring.{greatest}
use Rattle.ds_screen.proofs.RunLaws.{greatest_hit, greatest_miss}
use Rattle.script_keys.specs.Ends.{is_filled_at}
use Rattle.script_keys.proofs.EndLaws.{filled_here}
use Rattle.script_keys.proofs.ends.last_filled.Goals as goal

pub returns-then-is_filled-clause-last : goal.returns-then-is_filled-clause-last
returns-then-is_filled-clause-last g c =
    let cells : List Cell = c.args.screen.now.cells in
    let d : ℕ = c.places.left - 1 in
    let test : ℕ → Bool = is_filled_at cells c.args.start in
    let more : d + 1 ≡ c.places.left = omega (arith, c.places-test.true) in
    let hit : test d ≡ true =
    filled_here cells _ c.args.start d _ _ _ c.position_count-n.ensures.count c.forward.ensures.on c.cell.ensures c.is_filled.ensures ∙ c.if-is_filled.true in
    sym (sym c.places.invariant.misses ∙ ap (λ k. greatest k test) (sym more) ∙ greatest_hit d test hit)

pub places-preserved : goal.places-preserved
places-preserved g c =
    let cells : List Cell = c.args.screen.now.cells in
    let d : ℕ = c.places.left - 1 in
    let test : ℕ → Bool = is_filled_at cells c.args.start in
    let more : d + 1 ≡ c.places.left = omega (arith, c.places-test.true) in
    let miss : test d ≡ false =
    filled_here cells _ c.args.start d _ _ _ c.position_count-n.ensures.count c.forward.ensures.on c.cell.ensures c.is_filled.ensures ∙ c.if-is_filled.false in
    record {
      few = omega (arith, c.places.invariant.few);
      misses = sym (greatest_miss d test miss) ∙ ap (λ k. greatest k test) more ∙ c.places.invariant.misses;
    }

pub returns-clause-last : goal.returns-clause-last
unfolding greatest
returns-clause-last g c =
    let cells : List Cell = c.args.screen.now.cells in
    let none : c.places.left ≡ 0 = omega (arith, c.places-test.false) in
    let start = c.args.start in
    ap (λ k. greatest k (is_filled_at cells start)) (sym none) ∙ c.places.invariant.misses
