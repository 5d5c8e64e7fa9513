use Rattle.std.proofs.Common.{◌≡◌, ◌++◌, ◌∷◌, [], sym, ◌∙◌, ap, subst, append_assoc}
use Rattle.std.proofs.lemmas.List.{append-nil}
use Rattle.ds_screen.specs.Fields.{fields_of}
use Rattle.ds_screen.specs.declared.field.FieldAt.{FieldAt}
use Rattle.ds_inbound.proofs.Sent.{AreFieldsOf, all_fields}
use Rattle.demo_screens.proofs.SentLaws.{modified_among, among_all, among_more, among_less}
use Rattle.demo_screens.proofs.rehearsal.modified_of.Goals as goal

pub fields-init : goal.fields-init
fields-init g c =
    let cells = c.args.screen.now.cells in
    let same : c.into_iter-field-iterator.result ≡ fields_of cells = c.into_iter-field-iterator.ensures.into_iter_gives ∙ c.fields-field-items.ensures in
    record {
      listed = ap (λ ps. ps ++ modified_among cells c.into_iter-field-iterator.result) c.new-places.ensures.items ∙ ap (modified_among cells) same ∙ among_all cells;
      fields = subst (AreFieldsOf cells) (sym same) (all_fields cells);
    }

pub fields-preserved-in-Continue-1 : goal.fields-preserved-in-Continue-1
fields-preserved-in-Continue-1 g c =
    let cells = c.args.screen.now.cells in
    let field : FieldAt = c.in-Some.field in
    let split : c.fields.field-iterator ≡ field ∷ c.next.new.self = c.in-Some.ensures.steps in
    let there = subst (AreFieldsOf cells) split c.fields.invariant.fields in
    let more : modified_among cells c.fields.field-iterator ≡ field.at ∷ modified_among cells c.next.new.self =
    ap (modified_among cells) split ∙ among_more cells field c.next.new.self there.0 (sym c.modified.ensures ∙ c.if-modified.true) in
    record {
      listed =
          ap (λ ps. ps ++ modified_among cells c.next.new.self) c.in_ok-push.ensures.items
          ∙ append_assoc c.fields.places.items (field.at ∷ []) (modified_among cells c.next.new.self)
          ∙ ap (λ ps. c.fields.places.items ++ ps) (sym more) ∙ c.fields.invariant.listed;
      fields = there.1;
    }

pub fields-preserved : goal.fields-preserved
fields-preserved g c =
    let cells = c.args.screen.now.cells in
    let field : FieldAt = c.in-Some.field in
    let split : c.fields.field-iterator ≡ field ∷ c.next.new.self = c.in-Some.ensures.steps in
    let there = subst (AreFieldsOf cells) split c.fields.invariant.fields in
    let less : modified_among cells c.fields.field-iterator ≡ modified_among cells c.next.new.self =
    ap (modified_among cells) split ∙ among_less cells field c.next.new.self there.0 (sym c.modified.ensures ∙ c.if-modified.false) in
    record { listed = ap (λ ps. c.fields.places.items ++ ps) (sym less) ∙ c.fields.invariant.listed; fields = there.1 }

pub returns : goal.returns
returns g c =
    let cells = c.args.screen.now.cells in
    sym (append-nil c.fields.places.items) ∙ ap (λ fs. c.fields.places.items ++ modified_among cells fs) (sym c.in-None.ensures.steps.0) ∙ c.fields.invariant.listed
