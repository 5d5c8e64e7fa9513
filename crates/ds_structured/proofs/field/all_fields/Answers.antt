use Rattle.std.proofs.Common.{◌∙◌, ap, sym, map, [], ◌∷◌, rules, arith}
use Rattle.std.proofs.lemmas.List.{map-append}
use Rattle.ds_structured.specs.Fields.{field_seen}
use Rattle.ds_structured.proofs.FieldLaws.{field_taken, field_missing, fields_taken}
use Rattle.ds_structured.proofs.field.all_fields.Goals as goal

pub returns-in_default : goal.returns-in_default
returns-in_default c = field_missing (map field_seen c.field.fields.items) c.field.rest.now _ (search (rules, arith)) (sym (search (rules, c.in_default.ensures.split, c.in_default.is))) c.field.invariant

pub field-preserved : goal.field-preserved
field-preserved c = field_taken (map field_seen c.field.fields.items) (map field_seen c.push.new.self.items) (field_seen c.in-Some.field) c.field.rest.now c.in-Some.others.now _ (ap (map field_seen) c.in_ok-push.ensures.items ∙ map-append field_seen c.field.fields.items (c.in-Some.field ∷ [])) c.in-Some.ensures.split c.field.invariant

pub returns : goal.returns
returns c = fields_taken (map field_seen c.field.fields.items) c.field.rest.now _ (search (rules, arith)) c.field.invariant
