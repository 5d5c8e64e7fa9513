use Rattle.std.proofs.Common.{◌∙◌, refl, sym, arith}
use Rattle.std.proofs.lemmas.Result.{err_from_is_err_and}
use Rattle.cli_suites.proofs.Loop.{accepted_from-table, accepted_from-other, accepted_from-end, Fails-bind}
use Rattle.cli_suites.proofs.manifest.accepted_from.Goals as goal
use Rattle.cli_suites.proofs.manifest.accepted_from.Goals.{in-Some+in_ok-accepted, in_default}

pub returns-in_err-accepted : goal.returns-in_err-accepted
returns-in_err-accepted c =
    let p = err_from_is_err_and c.from_residual.result c.from_residual.ensures.1 in
    let step = accepted_from-table c.args.jobs.now c.loop-value.index c.loop-value.accepted.items c.args.values.now c.loop-value.value-index c.value-item.result _ _ (omega arith) c.value-item.is (sym c.in-Some.ensures) refl in
    rw (p.1, p.2) (Fails-bind _ _ _ _ c.in_err-accepted.ensures (sym c.loop-value.invariant.accepted ∙ step))

pub loop-value-preserved : goal.loop-value-preserved
loop-value-preserved c =
    let them = c.args.jobs.now in
    let values = c.args.values.now in
    let n = c.loop-value.index in
    let before = c.loop-value.accepted.items in
    elim c.match-as_table.branch [
      | in-Some+in_ok-accepted w ↦
          let step = accepted_from-table them n before values c.loop-value.value-index c.value-item.result _ _ (omega arith) c.value-item.is (sym w.in-Some.ensures) w.in_ok-accepted.ensures in
          rw (w.accepted-is, w.index-is) (record { accepted = sym step ∙ c.loop-value.invariant.accepted; counted = omega arith })
      | in_default w ↦
          let step = accepted_from-other them n before values c.loop-value.value-index c.value-item.result (omega arith) c.value-item.is (sym w.in_default.ensures) in
          rw (w.accepted-is, w.index-is) (record { accepted = sym step ∙ c.loop-value.invariant.accepted; counted = omega arith })
    ]

pub returns : goal.returns
returns c = sym c.loop-value.invariant.accepted ∙ accepted_from-end _ _ _ c.args.values.now _ (omega arith)
