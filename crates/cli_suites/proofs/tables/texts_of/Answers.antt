use Rattle.std.proofs.Common.{◌∙◌, refl, sym, arith}
use Rattle.std.proofs.lemmas.Result.{err_from_is_err_and}
use Rattle.cli_suites.proofs.Loop.{texts_of-next, texts_of-end, Fails-bind}
use Rattle.cli_suites.proofs.tables.texts_of.Goals as goal

pub returns-in_err-texts : goal.returns-in_err-texts
returns-in_err-texts c =
    let p = err_from_is_err_and c.from_residual.result c.from_residual.ensures.1 in
    let step = texts_of-next c.args.key _ c.args.values.now c.loop-value.value-index c.value-item.result _ (omega arith) c.value-item.is refl in
    rw (p.1, p.2) (Fails-bind _ _ _ _ c.in_err-texts.ensures (sym c.loop-value.invariant ∙ step))

pub loop-value-preserved : goal.loop-value-preserved
loop-value-preserved c =
    let step = texts_of-next c.args.key _ c.args.values.now c.loop-value.value-index c.value-item.result _ (omega arith) c.value-item.is c.in_ok-texts.ensures in
    sym step ∙ c.loop-value.invariant

pub returns : goal.returns
returns c = sym c.loop-value.invariant ∙ texts_of-end _ _ c.args.values.now _ (omega arith)
