use Rattle.std.proofs.Common.{◌∙◌, refl, sym, arith}
use Rattle.std.proofs.lemmas.Result.{err_from_is_err_and}
use Rattle.scr_layout.proofs.Loop.{entries_of-table, entries_of-other, entries_of-end, Fails-bind}
use Rattle.scr_layout.proofs.layout.entries_of.Goals as goal
use Rattle.scr_layout.proofs.layout.entries_of.Goals.{in-Some+in_ok-listed, in_default}

pub returns-in_err-listed : goal.returns-in_err-listed
returns-in_err-listed c =
    let p = err_from_is_err_and c.from_residual.result c.from_residual.ensures.1 in
    let step = entries_of-table c.args.version c.args.size c.loop-value.field c.loop-value.listed c.args.values.now c.loop-value.value-index c.value-item.result _ _ (omega arith) c.value-item.is (sym c.in-Some.ensures) refl in
    rw (p.1, p.2) (Fails-bind _ _ _ _ c.in_err-listed.ensures (sym c.loop-value.invariant.entries ∙ step))

pub loop-value-preserved : goal.loop-value-preserved
loop-value-preserved c =
    let version = c.args.version in
    let size = c.args.size in
    let values = c.args.values.now in
    let n = c.loop-value.field in
    let before = c.loop-value.listed in
    elim c.match-as_table.branch [
      | in-Some+in_ok-listed w ↦
          let step = entries_of-table version size n before values c.loop-value.value-index c.value-item.result _ _ (omega arith) c.value-item.is (sym w.in-Some.ensures) w.in_ok-listed.ensures in
          rw (w.listed-is, w.field-is) (record { entries = sym step ∙ c.loop-value.invariant.entries; counted = omega arith })
      | in_default w ↦
          let step = entries_of-other version size n before values c.loop-value.value-index c.value-item.result (omega arith) c.value-item.is (sym w.in_default.ensures) in
          rw (w.listed-is, w.field-is) (record { entries = sym step ∙ c.loop-value.invariant.entries; counted = omega arith })
    ]

pub returns : goal.returns
returns c = sym c.loop-value.invariant.entries ∙ entries_of-end _ _ _ _ c.args.values.now _ (omega arith)
