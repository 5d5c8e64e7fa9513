use Rattle.std.proofs.Common.{◌≡◌, ◌++◌, length}
use Rattle.ds_screen.specs.Fields.{attributes_from}
use Rattle.ds_inbound.specs.Answer.{fields_sent, written_fields}
use Rattle.ds_inbound.proofs.Sent.{sent_among, AreFieldsOf}
use Rattle.ds_inbound.proofs.write.push_fields.Given as goal

-- what is left to send makes the whole
abbrev pub invariant-fields : goal.invariant-fields
invariant-fields g l =
    let cells = l.screen.cells in
    let all = fields_sent cells (attributes_from cells 0) in
    record {
      written : l.out.items ++ written_fields l.screen.geometry.mode (length cells) (sent_among cells l.field-iterator)
          ≡ l.fn.out.items ++ written_fields l.screen.geometry.mode (length cells) all;
      fields : AreFieldsOf cells l.field-iterator;
    }
