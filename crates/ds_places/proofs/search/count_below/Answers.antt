use Rattle.std.proofs.Common.{◌≡◌, ◌<◌, ◌+◌, ◌-◌, ◌*◌, ◌/◌, ◌^◌, length, get_or, ◌∙◌, ap, arith}
use Rattle.ds_places.proofs.LookLaws.{halved, looks_left, early_to, late_from}
use Rattle.ds_places.proofs.search.count_below.Goals as goal

pub item-requires-clause-few : goal.item-requires-clause-few
item-requires-clause-few g c =
    let short = looks_left c.halves.seen.looks (c.halves.high - c.halves.low) (length c.args.seen.now.entries.now) 64 c.halves.invariant.left
    (omega (arith, c.halves-test.true)) (omega (arith, c.len-high.ensures, c.len-high.type_inv)) in
    omega (arith, short)

pub halves-preserved-then-from-place : goal.halves-preserved-then-from-place
halves-preserved-then-from-place g c =
    let place = g.T.Placed.place_of in
    let xs = c.args.seen.now.entries.now in
    let u = c.halves.seen.looks in
    let middle = c.halves.low + (c.halves.high - c.halves.low) / 2 in
    let lt : middle < length xs = omega (arith, c.halves.invariant.within, c.halves-test.true) in
    let is : c.item.result ≡ get_or xs middle c.item.result = c.item.ensures.value ∙ ap (λ l. get_or l middle c.item.result) c.halves.invariant.kept in
    record {
      kept = c.item.ensures.kept ∙ c.halves.invariant.kept;
      order = omega (arith, c.halves-test.true);
      within = c.halves.invariant.within;
      early = early_to place xs c.args.place middle c.item.result c.requires.rising lt is (omega (arith, c.if-from-place.true, c.from.ensures, c.place.ensures));
      late = c.halves.invariant.late;
      left =
          (let wide = halved u (c.halves.high - c.halves.low) (c.halves.high - (middle + 1)) (length xs) c.halves.invariant.left (omega (arith, c.halves-test.true)) in
          omega (arith, wide, ap (λ k. 2 ^ k * (c.halves.high - (middle + 1))) c.item.ensures.counted));
      looks = λ digits few.
          (let short = looks_left u (c.halves.high - c.halves.low) (length xs) digits c.halves.invariant.left (omega (arith, c.halves-test.true)) few in
          omega (arith, short, c.item.ensures.counted));
    }

pub halves-preserved : goal.halves-preserved
halves-preserved g c =
    let place = g.T.Placed.place_of in
    let xs = c.args.seen.now.entries.now in
    let u = c.halves.seen.looks in
    let middle = c.halves.low + (c.halves.high - c.halves.low) / 2 in
    let lt : middle < length xs = omega (arith, c.halves.invariant.within, c.halves-test.true) in
    let is : c.item.result ≡ get_or xs middle c.item.result = c.item.ensures.value ∙ ap (λ l. get_or l middle c.item.result) c.halves.invariant.kept in
    record {
      kept = c.item.ensures.kept ∙ c.halves.invariant.kept;
      order = omega (arith, c.halves-test.true);
      within = omega (arith, c.halves.invariant.within, c.halves-test.true);
      early = c.halves.invariant.early;
      late = late_from place xs c.args.place middle c.item.result c.requires.rising lt is (omega (arith, c.if-from-place.false, c.from.ensures, c.place.ensures));
      left =
          (let wide = halved u (c.halves.high - c.halves.low) (middle - c.halves.low) (length xs) c.halves.invariant.left (omega (arith, c.halves-test.true)) in
          omega (arith, wide, ap (λ k. 2 ^ k * (middle - c.halves.low)) c.item.ensures.counted));
      looks = λ digits few.
          (let short = looks_left u (c.halves.high - c.halves.low) (length xs) digits c.halves.invariant.left (omega (arith, c.halves-test.true)) few in
          omega (arith, short, c.item.ensures.counted));
    }

pub returns-clause-few : goal.returns-clause-few
returns-clause-few g c =
    let looks = c.halves.invariant.looks 64 (omega (arith, c.len-high.ensures, c.len-high.type_inv)) in
    omega (arith, looks)
