use Rattle.std.proofs.Common.{◌≡◌, ◌++◌, map, drop}
use Rattle.tn_session.specs.HostLog.{records_due, wanted}
use Rattle.tn_dialogue.specs.Screens.{sequence_after}
use Rattle.tn_dialogue.proofs.sent.push_records.Given as goal

-- what is added so far, with the records that are left, is all of them
abbrev pub invariant-loop-bytes : goal.invariant-loop-bytes
invariant-loop-bytes l = record {
  added : l.due.items ++ records_due l.agreed l.sequence (map (λ bytes. bytes.items) (drop l.bytes-index l.records))
      ≡ l.fn.due.items ++ records_due l.agreed l.first (map (λ bytes. bytes.items) l.records);
  next : sequence_after l.sequence (map (λ bytes. bytes.items) (drop l.bytes-index l.records))
      ≡ sequence_after l.first (map (λ bytes. bytes.items) l.records);
  response : l.response ≡ wanted l.agreed;
}
