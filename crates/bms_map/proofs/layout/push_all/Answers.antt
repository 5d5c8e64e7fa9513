use Rattle.bms_map.proofs.EntryLaws.{append_next}
use Rattle.bms_map.proofs.layout.push_all.Goals as goal

pub loop-rest-preserved : goal.loop-rest-preserved
loop-rest-preserved c =
    append_next _ _ _ _ c.loop-rest.rest.now c.field-item.result c.in-len1-up.len_at_least c.field-item.is c.in_ok-push_declared.ensures c.loop-rest.invariant
