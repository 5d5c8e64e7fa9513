use Rattle.std.proofs.Common.{sym, ◌∙◌, arith, length-drop}
use Rattle.std.proofs.lemmas.List.{take_rest}
use Rattle.ds_codec.proofs.Walk.{some_left}
use Rattle.ds_inbound.proofs.Split.{goes_on, ends}
use Rattle.ds_inbound.proofs.inbound.check_tail.Goals as goal

pub items-preserved : goal.items-preserved
items-preserved c =
    rw (take_rest c.items.rest.now c.in-Ok.found.1) (record {
      same = goes_on c.args.mode c.args.cells c.items.at c.items.rest.now c.in-Ok.found _ (sym c.in-Ok.ensures.exact) c.items.invariant.same;
      place = omega (arith, length-drop c.in-Ok.found.1 c.items.rest.now, c.items.invariant.place, c.in-Ok.ensures.within);
    })

pub returns-in-Err : goal.returns-in-Err
returns-in-Err c =
    ends c.args.mode c.args.cells c.items.at c.items.rest.now c.in-Err.why _ (some_left _ (sym c.is_empty.ensures ∙ c.items-test.true)) (sym c.in-Err.ensures.exact) c.items.invariant.same
