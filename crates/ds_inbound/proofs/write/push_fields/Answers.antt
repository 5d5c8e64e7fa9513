use Rattle.std.proofs.Common.{◌≡◌, ◌++◌, ◌∷◌, [], length, sym, ◌∙◌, ap, subst}
use Rattle.std.proofs.lemmas.List.{append-nil}
use Rattle.ds_screen.specs.Fields.{fields_of}
use Rattle.ds_screen.specs.declared.field.FieldAt.{FieldAt}
use Rattle.ds_inbound.specs.Answer.{field_sent, written_fields}
use Rattle.ds_inbound.proofs.Sent.{sent_among, AreFieldsOf, sent_all, all_fields, sent_more, sent_less, sent_none, fields_bytes}
use Rattle.ds_inbound.proofs.write.push_fields.Goals as goal

pub fields-init : goal.fields-init
fields-init g c =
    let v = c.args.screen.now in
    let same : c.into_iter-field-iterator.result ≡ fields_of v.cells = c.into_iter-field-iterator.ensures.into_iter_gives ∙ c.fields-field-items.ensures in
    let sent = ap (sent_among v.cells) same ∙ sent_all v.cells in
    record {
      written = ap (λ ss. c.args.out.now.items ++ written_fields v.geometry.mode (length v.cells) ss) sent;
      fields = subst (AreFieldsOf v.cells) (sym same) (all_fields v.cells);
    }

pub fields-preserved-in-Continue-1 : goal.fields-preserved-in-Continue-1
fields-preserved-in-Continue-1 g c =
    let v = c.args.screen.now in
    let field : FieldAt = c.in-Some.field in
    let split : c.fields.field-iterator ≡ field ∷ c.next.new.self = c.in-Some.ensures.steps in
    let there = subst (AreFieldsOf v.cells) split c.fields.invariant.fields in
    let more : sent_among v.cells c.fields.field-iterator ≡ field_sent v.cells field.at ∷ sent_among v.cells c.next.new.self =
    ap (sent_among v.cells) split ∙ sent_more v.cells field c.next.new.self there.0 (sym c.if-modified.ensures) in
    record {
      written = fields_bytes v.geometry.mode (length v.cells) c.fields.out.items _ (field_sent v.cells field.at) _ _ c.in_ok-push_field.ensures more ∙ c.fields.invariant.written;
      fields = there.1;
    }

pub fields-preserved : goal.fields-preserved
fields-preserved g c =
    let v = c.args.screen.now in
    let field : FieldAt = c.in-Some.field in
    let split : c.fields.field-iterator ≡ field ∷ c.next.new.self = c.in-Some.ensures.steps in
    let there = subst (AreFieldsOf v.cells) split c.fields.invariant.fields in
    let less : sent_among v.cells c.fields.field-iterator ≡ sent_among v.cells c.next.new.self =
    ap (sent_among v.cells) split ∙ sent_less v.cells field c.next.new.self there.0 (sym c.if-modified.ensures) in
    record {
      written = ap (λ ss. c.fields.out.items ++ written_fields v.geometry.mode (length v.cells) ss) (sym less) ∙ c.fields.invariant.written;
      fields = there.1;
    }

pub returns : goal.returns
returns g c =
    let v = c.args.screen.now in
    let none : sent_among v.cells c.fields.field-iterator ≡ [] = ap (sent_among v.cells) c.in-None.ensures.steps.0 ∙ sent_none v.cells in
    sym (append-nil c.fields.out.items) ∙ ap (λ ss. c.fields.out.items ++ written_fields v.geometry.mode (length v.cells) ss) (sym none) ∙ c.fields.invariant.written
