use Rattle.std.proofs.Common.{◌≡◌, ◌+◌, ◌-◌, arith}
use Rattle.script_requests.proofs.EndLaws.{ends_here, goes_back, ends_before}
use Rattle.script_requests.proofs.address.without_end.Goals as goal

pub returns-then-not-is_blank : goal.returns-then-not-is_blank
returns-then-not-is_blank c =
    let more : (c.places.left - 1) + 1 ≡ c.places.left = omega (arith, c.places-test.true) in
    ends_here c.args.text.now (c.places.left - 1) c.places.left c.is_blank.result more c.places.invariant.misses c.is_blank.ensures c.if-not-is_blank.true

pub places-preserved : goal.places-preserved
places-preserved c =
    let more : (c.places.left - 1) + 1 ≡ c.places.left = omega (arith, c.places-test.true) in
    record {
      few = omega (arith, c.places.invariant.few);
      misses = goes_back c.args.text.now (c.places.left - 1) c.places.left c.is_blank.result more c.places.invariant.misses c.is_blank.ensures c.if-not-is_blank.false;
    }

pub returns : goal.returns
returns c = ends_before c.args.text.now c.places.left (omega (arith, c.places-test.false)) c.places.invariant.misses
