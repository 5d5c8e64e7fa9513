use Rattle.std.proofs.Common.{◌∙◌, refl, sym, arith}
use Rattle.std.proofs.lemmas.Result.{err_from_is_err_and}
use Rattle.cli_suites.proofs.Loop.{jobs_from-table, jobs_from-other, jobs_from-end, Fails-bind}
use Rattle.cli_suites.proofs.manifest.jobs_from.Goals as goal
use Rattle.cli_suites.proofs.manifest.jobs_from.Goals.{in-Some+in_ok-jobs, in_default}

pub returns-in_err-jobs : goal.returns-in_err-jobs
returns-in_err-jobs c =
    let p = err_from_is_err_and c.from_residual.result c.from_residual.ensures.1 in
    let step = jobs_from-table c.args.kind c.loop-value.index c.loop-value.jobs c.args.values.now c.loop-value.value-index c.value-item.result _ _ (omega arith) c.value-item.is (sym c.in-Some.ensures) refl in
    rw (p.1, p.2) (Fails-bind _ _ _ _ c.in_err-jobs.ensures (sym c.loop-value.invariant.jobs ∙ step))

pub loop-value-preserved : goal.loop-value-preserved
loop-value-preserved c =
    let kind = c.args.kind in
    let values = c.args.values.now in
    let n = c.loop-value.index in
    let before = c.loop-value.jobs in
    elim c.match-as_table.branch [
      | in-Some+in_ok-jobs w ↦
          let step = jobs_from-table kind n before values c.loop-value.value-index c.value-item.result _ _ (omega arith) c.value-item.is (sym w.in-Some.ensures) w.in_ok-jobs.ensures in
          rw (w.jobs-is, w.index-is) (record { jobs = sym step ∙ c.loop-value.invariant.jobs; counted = omega arith })
      | in_default w ↦
          let step = jobs_from-other kind n before values c.loop-value.value-index c.value-item.result (omega arith) c.value-item.is (sym w.in_default.ensures) in
          rw (w.jobs-is, w.index-is) (record { jobs = sym step ∙ c.loop-value.invariant.jobs; counted = omega arith })
    ]

pub returns : goal.returns
returns c = sym c.loop-value.invariant.jobs ∙ jobs_from-end _ _ _ c.args.values.now _ (omega arith)
