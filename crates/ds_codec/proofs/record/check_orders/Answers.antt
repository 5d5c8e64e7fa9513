use Rattle.std.proofs.Common.{ℕ, sym, ◌∙◌, arith, length-drop}
use Rattle.std.proofs.lemmas.List.{take_rest}
use Rattle.ds_codec.specs.Reading.{orders_from}
use Rattle.ds_codec.proofs.Walk.{goes_on, ends, some_left}
use Rattle.ds_codec.proofs.Needs.{needs_on, greater_is}
use Rattle.ds_codec.proofs.record.check_orders.Goals as goal

pub loop-rest-preserved : goal.loop-rest-preserved
loop-rest-preserved c =
    rw (take_rest c.loop-rest.rest.now c.in-Ok.length, c.max-need.ensures, greater_is c.loop-rest.need c.need.result) (record {
      same = goes_on c.args.mode c.loop-rest.at c.loop-rest.rest.now _ c.in-Ok.length _ c.in-Ok.ensures.exact c.in-Ok.ensures.some c.loop-rest.invariant.same;
      placed = omega (arith, length-drop {A = ℕ}, c.loop-rest.invariant.placed, c.in-Ok.ensures.inside);
      needs = needs_on c.args.mode c.loop-rest.at c.loop-rest.rest.now _ c.in-Ok.length c.loop-rest.need c.need.result (orders_from c.args.mode 0 2 c.args.bytes.now)
          c.in-Ok.ensures.exact c.in-Ok.ensures.some c.loop-rest.invariant.same c.need.ensures c.loop-rest.invariant.needs;
    })

pub returns-in-Err-clause-refused : goal.returns-in-Err-clause-refused
returns-in-Err-clause-refused c =
    ends c.args.mode c.loop-rest.at c.loop-rest.rest.now c.in-Err.why _ (some_left _ (sym c.is_empty.ensures ∙ c.loop-rest-test.true)) c.in-Err.ensures.exact c.loop-rest.invariant.same
