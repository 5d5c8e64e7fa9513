use Rattle.std.proofs.Common.{◌≡◌, ◌+◌, ◌-◌, ℕ, true, false, sym, ◌∙◌, ap, arith}
use Rattle.ds_screen.specs.Ring.{greatest}
use Rattle.ds_screen.proofs.RunLaws.{greatest_hit, greatest_miss}
use Rattle.script_keys.specs.Fill.{is_null_back}
use Rattle.script_keys.proofs.FillLaws.{null_here}
use Rattle.script_keys.proofs.fill.farthest_null.Goals as goal

pub returns-then-is_null-clause-farthest : goal.returns-then-is_null-clause-farthest
returns-then-is_null-clause-farthest g c =
    let d : ℕ = c.places.left - 1 in
    let more : d + 1 ≡ c.places.left = omega (arith, c.places-test.true) in
    let hit : is_null_back c.args.screen.now.cells c.args.place d ≡ true =
    null_here c.args.screen.now.cells _ c.args.place d c.places.left _ _ _ c.position_count-n.ensures.count more c.backward.ensures.back c.cell.ensures c.is_null.ensures
    ∙ c.if-is_null.true in
    sym (sym c.places.invariant.misses ∙ ap (λ k. greatest k (is_null_back c.args.screen.now.cells c.args.place)) (sym more)
    ∙ greatest_hit d (is_null_back c.args.screen.now.cells c.args.place) hit)

pub places-preserved : goal.places-preserved
places-preserved g c =
    let d : ℕ = c.places.left - 1 in
    let more : d + 1 ≡ c.places.left = omega (arith, c.places-test.true) in
    let miss : is_null_back c.args.screen.now.cells c.args.place d ≡ false =
    null_here c.args.screen.now.cells _ c.args.place d c.places.left _ _ _ c.position_count-n.ensures.count more c.backward.ensures.back c.cell.ensures c.is_null.ensures
    ∙ c.if-is_null.false in
    record {
      few = omega (arith, c.places.invariant.few);
      misses =
          sym (greatest_miss d (is_null_back c.args.screen.now.cells c.args.place) miss)
          ∙ ap (λ k. greatest k (is_null_back c.args.screen.now.cells c.args.place)) more ∙ c.places.invariant.misses;
    }

pub returns-clause-farthest : goal.returns-clause-farthest
unfolding greatest
returns-clause-farthest g c =
    let none : c.places.left ≡ 0 = omega (arith, c.places-test.false) in
    ap (λ k. greatest k (is_null_back c.args.screen.now.cells c.args.place)) (sym none) ∙ c.places.invariant.misses
