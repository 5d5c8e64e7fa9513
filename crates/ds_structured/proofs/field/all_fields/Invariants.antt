use Rattle.std.proofs.Common.{◌≡◌, length, map}
use Rattle.ds_structured.specs.Fields.{all_fields, field_seen}
use Rattle.ds_structured.proofs.FieldLaws.{behind}
use Rattle.ds_structured.proofs.field.all_fields.Given as goal

abbrev pub invariant-field : goal.invariant-field
invariant-field l = behind (map field_seen l.fields.items) (all_fields l.rest) ≡ all_fields l.bytes

abbrev pub decreases-field : goal.decreases-field
decreases-field l = length l.rest
