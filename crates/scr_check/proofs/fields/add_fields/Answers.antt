use Rattle.std.proofs.Common.{◌≡◌, ◌++◌, List, sym, ◌∙◌, ap, subst, arith}
use Rattle.std.specs.Prelude.{All, option_to_list}
use Rattle.std.specs.List.{flat_map}
use Rattle.ds_screen.specs.declared.field.FieldAt.{FieldAt}
use Rattle.ds_screen.specs.Picture.{Picture}
use Rattle.ds_screen.specs.Fields.{fields_of}
use Rattle.ds_screen.specs.Outline.{IsOutlineOf}
use Rattle.scr_layout.specs.Entry.{Declared}
use Rattle.scr_check.specs.Findings.{entry_of, field_finding}
use Rattle.scr_check.proofs.FoundLaws.{IsField, fields_are, found_more, first_of, field_told, field_passed}
use Rattle.scr_check.proofs.fields.add_fields.Goals as goal

pub loop-field-init : goal.loop-field-init
loop-field-init c =
    let given : (v : Picture) → IsOutlineOf c.args.outline.now v → c.into_iter-field-iterator.result ≡ fields_of v.cells = λ v is. c.into_iter-field-iterator.ensures.into_iter_gives ∙ c.fields-field-items.ensures v is in (
      λ v is at. ap (λ (fs : List FieldAt). c.args.findings.now.items ++ flat_map (λ field. option_to_list (field_finding c.args.layout.now.entries v field)) fs) (given v is),
      λ v is. subst (All (IsField v.cells)) (sym (given v is)) (fields_are v.cells),
      λ v is k entry lt inside. absurd (omega (arith, lt)),
    )

pub loop-field-preserved-in-Continue-1 : goal.loop-field-preserved-in-Continue-1
loop-field-preserved-in-Continue-1 c =
    let entries : List Declared = c.args.layout.now.entries in
    let field : FieldAt = c.in-Some.field in
    let fields : List FieldAt = c.loop-field.field-iterator in
    let rest : List FieldAt = c.next.new.self in
    let index : c.entry_of-index.result ≡ entry_of c.entries.result.now field = c.entry_of-index.ensures ∙ ap (λ es. entry_of es field) (sym c.entries.ensures.value) in (
      λ v is at.
          let told : c.field_finding.result ≡ field_finding entries v field = c.field_finding.ensures index v at ∙ ap (λ es. field_finding es v field) c.entries.ensures.value in
          field_told (λ f. option_to_list (field_finding entries v f)) c.loop-field.findings.items c.push.new.self.items c.in-Some-field_finding.finding field fields rest
          c.in-Some.ensures.steps c.in_ok-push.ensures.items (ap option_to_list (sym c.in-Some-field_finding.is ∙ told)) ∙ c.loop-field.invariant.0 v is at,
      λ v is. (first_of (IsField v.cells) fields rest field c.in-Some.ensures.steps (c.loop-field.invariant.1 v is)).1,
      λ v is. found_more v.cells entries c.loop-field.first c.first_found-first.result field c.entry_of-index.result
          (first_of (IsField v.cells) fields rest field c.in-Some.ensures.steps (c.loop-field.invariant.1 v is)).0 c.entry_of-index.ensures
          c.first_found-first.ensures.within c.first_found-first.ensures.found (c.loop-field.invariant.2 v is),
    )

pub loop-field-preserved : goal.loop-field-preserved
loop-field-preserved c =
    let entries : List Declared = c.args.layout.now.entries in
    let field : FieldAt = c.in-Some.field in
    let fields : List FieldAt = c.loop-field.field-iterator in
    let rest : List FieldAt = c.next.new.self in
    let index : c.entry_of-index.result ≡ entry_of c.entries.result.now field = c.entry_of-index.ensures ∙ ap (λ es. entry_of es field) (sym c.entries.ensures.value) in (
      λ v is at.
          let told : c.field_finding.result ≡ field_finding entries v field = c.field_finding.ensures index v at ∙ ap (λ es. field_finding es v field) c.entries.ensures.value in
          field_passed (λ f. option_to_list (field_finding entries v f)) c.loop-field.findings.items field fields rest
          c.in-Some.ensures.steps (ap option_to_list (sym c.in_default.is ∙ told)) ∙ c.loop-field.invariant.0 v is at,
      λ v is. (first_of (IsField v.cells) fields rest field c.in-Some.ensures.steps (c.loop-field.invariant.1 v is)).1,
      λ v is. found_more v.cells entries c.loop-field.first c.first_found-first.result field c.entry_of-index.result
          (first_of (IsField v.cells) fields rest field c.in-Some.ensures.steps (c.loop-field.invariant.1 v is)).0 c.entry_of-index.ensures
          c.first_found-first.ensures.within c.first_found-first.ensures.found (c.loop-field.invariant.2 v is),
    )
