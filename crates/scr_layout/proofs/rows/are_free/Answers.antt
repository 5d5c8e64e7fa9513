use Rattle.std.proofs.Common.{◌∙◌, sym, arith}
use Rattle.std.proofs.lemmas.Result.{err_from_is_err_and}
use Rattle.scr_layout.proofs.RowsLaw.{are_free-step, are_free-fault, are_free-end}
use Rattle.scr_layout.proofs.rows.are_free.Goals as goal

pub returns-in_err-place : goal.returns-in_err-place
returns-in_err-place c =
    let p = err_from_is_err_and c.from_residual.result c.from_residual.ensures.1 in
    rw (p.1, p.2) (
    sym (are_free-fault c.args.size c.args.before.now c.args.step c.loop-row.place c.loop-row._row c.args.count _ (omega (arith, c.loop-row-test.true)) (sym c.in_err-place.ensures.value))
    ∙ c.loop-row.invariant.left)

pub loop-row-preserved : goal.loop-row-preserved
loop-row-preserved c = record {
  left =
      sym (are_free-step c.args.size c.args.before.now c.args.step c.loop-row.place _ c.loop-row._row c.args.count (omega (arith, c.loop-row-test.true)) (sym c.in_ok-place.ensures.value))
      ∙ c.loop-row.invariant.left;
  within = omega (arith, c.loop-row-test.true);
}

pub returns : goal.returns
returns c = sym (are_free-end c.args.size c.args.before.now c.args.step c.loop-row.place c.loop-row._row c.args.count (omega (arith, c.loop-row-test.false))) ∙ c.loop-row.invariant.left
