use Rattle.std.proofs.Common.{◌≡◌, map, drop}
use Rattle.ds_structured.specs.Fields.{field_seen}
use Rattle.tn_session.specs.TerminalLog.{answering, fields_obeyed}
use Rattle.tn_session.proofs.terminal_state.TerminalState.obey_fields.Given as goal

abbrev pub invariant-fields : goal.invariant-fields
invariant-fields l =
    answering l.due.items (fields_obeyed l.agreed l.self (map field_seen (drop l.field-index l.fields)))
    ≡ answering l.fn.due.items (fields_obeyed l.agreed l.fn.self (map field_seen l.fields))
