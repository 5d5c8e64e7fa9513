use Rattle.std.proofs.Common.{◌≡◌, ◌++◌, map, drop}
use Rattle.tn_session.specs.HostLog.{records_due, wanted}
use Rattle.tn_session.proofs.host_machine.push_records.Given as goal

-- what is added so far, with the records that are left, is all of them
abbrev pub invariant-loop-bytes : goal.invariant-loop-bytes
invariant-loop-bytes l = record {
  added : l.due.items ++ records_due l.agreed l.sequence (map (λ bytes. bytes.now) (drop l.bytes-index l.records))
      ≡ l.fn.due.items ++ records_due l.agreed 0 (map (λ bytes. bytes.now) l.records);
  response : l.response ≡ wanted l.agreed;
}
