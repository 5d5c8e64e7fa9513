use Rattle.std.proofs.Common.{sym, arith, length-drop}
use Rattle.std.proofs.lemmas.List.{take_rest}
use Rattle.ds_inbound.proofs.Glyphs.{run_after, run_none}
use Rattle.ds_inbound.proofs.front.run_length.Goals as goal

pub run-preserved : goal.run-preserved
run-preserved c =
    rw (take_rest c.run.rest.now c.in-Ok.found.1) (record {
      run = omega (arith, c.run.invariant.run, run_after c.run.rest.now c.in-Ok.found (sym c.in-Ok.ensures.exact));
      place = omega (arith, length-drop c.in-Ok.found.1 c.run.rest.now, c.run.invariant.place, c.in-Ok.ensures.within);
    })

pub returns-clause-run : goal.returns-clause-run
returns-clause-run c = omega (arith, c.run.invariant.run, run_none c.run.rest.now c.in_default.field-0 (sym c.in_default.ensures.exact))
