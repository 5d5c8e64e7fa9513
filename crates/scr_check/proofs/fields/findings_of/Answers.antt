use Rattle.std.specs.Prelude.{All}
use Rattle.std.proofs.Common.{◌≡◌, ◌<◌, length, ◌∙◌, sym, ap, subst, arith}
use Rattle.ds_codec.specs.Geometry.{cells_of}
use Rattle.scr_layout.specs.Entry.{Declared}
use Rattle.scr_check.specs.Findings.{HaveFields}
use Rattle.scr_check.proofs.FieldLaws.{findings_made}
use Rattle.scr_check.proofs.fields.findings_of.Goals as goal

pub returns : goal.returns
returns c = λ v is size.
    let at : (length v.cells ≡ c.cells.result) × (v.cursor ≡ c.cursor.result) = (
      is.sound.whole ∙ sym (c.cells.ensures ∙ ap cells_of (c.size.ensures ∙ is.size)),
      sym (c.cursor.ensures.value ∙ is.cursor),
    ) in
    let whole : length v.cells ≡ cells_of c.args.layout.now.size = is.sound.whole ∙ ap cells_of size in
    findings_made c.args.layout.now v c.entries.result.now c.new-findings.result.items c.add_fields.new.findings.items
    c.add_missing.new.findings.items c.new-findings.ensures.items c.entries.ensures.value (c.in_ok-first.ensures.added v is at)
    (c.in_ok-add_missing.ensures v is (subst (λ es. All (λ (entry : Declared). entry.place < length v.cells) es) (sym c.entries.ensures.value)
    (λ k d lt. omega (arith, c.entries.ensures.law.inside k d lt, whole)))
    (subst (λ es. HaveFields v.cells es c.in_ok-first.first) (sym c.entries.ensures.value) (c.in_ok-first.ensures.found v is)))
