use Rattle.std.proofs.Common.{◌≡◌, ◌<◌, ◌+◌, ◌++◌, drop, length, ◌∙◌, sym, ap, arith}
use Rattle.scr_layout.specs.Entry.{Declared}
use Rattle.scr_check.specs.Findings.{has_field, missing_from}
use Rattle.scr_check.proofs.FieldLaws.{missing_there, missing_told}
use Rattle.scr_check.proofs.FoundLaws.{missing_behind}
use Rattle.scr_check.proofs.fields.add_missing.Goals as goal
use Rattle.scr_check.proofs.fields.add_missing.Goals.{then-not-has_field+in_ok-push, else-not-has_field}

pub loop-index-preserved : goal.loop-index-preserved
loop-index-preserved c = λ v is all have.
    let i = c.loop-index.index in
    let entry : Declared = c.index-entries-index.result in
    let place = ap (λ (e : Declared). e.place) c.entry.view_is in
    let inside : entry.place < length v.cells = omega (arith, all i entry (omega (arith, c.loop-index-test.true)), ap (λ (e : Declared). e.place) c.index-entries-index.is) in
    let told : c.has_field.result ≡ has_field v.cells entry.place = c.has_field.ensures v is (omega (arith, place, inside)) ∙ ap (has_field v.cells) place in
    (elim c.if-not-has_field.branch [
      | then-not-has_field+in_ok-push w ↦
          missing_told v.cells c.args.entries.now i entry c.loop-index.findings.items c.if-not-has_field.findings.items (omega (arith, c.loop-index-test.true)) c.index-entries-index.is
          (sym w.if-not-has_field.true ∙ told) (ap (λ l. l.items) w.findings-is ∙ w.in_ok-push.ensures.items)
      | else-not-has_field w ↦
          ap (λ l. l.items ++ missing_from v.cells (i + 1) (drop (i + 1) c.args.entries.now)) w.findings-is ∙ missing_there v.cells c.args.entries.now i entry c.loop-index.findings.items (omega (arith, c.loop-index-test.true)) c.index-entries-index.is
          (sym w.if-not-has_field.false ∙ told)
    ]) ∙ c.loop-index.invariant v is all have

pub loop-index-init : goal.loop-index-init
loop-index-init c = λ v is all have. ap (λ l. c.args.findings.now.items ++ l) (missing_behind v.cells c.args.entries.now c.args.first have)
