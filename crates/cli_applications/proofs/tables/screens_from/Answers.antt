use Rattle.std.proofs.Common.{◌∙◌, refl, sym, arith}
use Rattle.std.proofs.lemmas.Result.{err_from_is_err_and}
use Rattle.cli_applications.proofs.Loop.{screens_from-table, screens_from-other, screens_from-end, Fails-bind}
use Rattle.cli_applications.proofs.tables.screens_from.Goals as goal
use Rattle.cli_applications.proofs.tables.screens_from.Goals.{in-Some+in_ok-screens, in_default}

pub returns-in_err-screens : goal.returns-in_err-screens
returns-in_err-screens c =
    let p = err_from_is_err_and c.from_residual.result c.from_residual.ensures.1 in
    let step = screens_from-table c.loop-value.index c.loop-value.screens.items c.args.values.now c.loop-value.value-index c.value-item.result _ _ (omega arith) c.value-item.is (sym c.in-Some.ensures) refl in
    rw (p.1, p.2) (Fails-bind _ _ _ _ c.in_err-screens.ensures (sym c.loop-value.invariant.screens ∙ step))

pub loop-value-preserved : goal.loop-value-preserved
loop-value-preserved c =
    let values = c.args.values.now in
    let n = c.loop-value.index in
    let before = c.loop-value.screens.items in
    elim c.match-as_table.branch [
      | in-Some+in_ok-screens w ↦
          let step = screens_from-table n before values c.loop-value.value-index c.value-item.result _ _ (omega arith) c.value-item.is (sym w.in-Some.ensures) w.in_ok-screens.ensures in
          rw (w.screens-is, w.index-is) (record { screens = sym step ∙ c.loop-value.invariant.screens; counted = omega arith })
      | in_default w ↦
          let step = screens_from-other n before values c.loop-value.value-index c.value-item.result (omega arith) c.value-item.is (sym w.in_default.ensures) in
          rw (w.screens-is, w.index-is) (record { screens = sym step ∙ c.loop-value.invariant.screens; counted = omega arith })
    ]

pub returns : goal.returns
returns c = sym c.loop-value.invariant.screens ∙ screens_from-end _ _ c.args.values.now _ (omega arith)
