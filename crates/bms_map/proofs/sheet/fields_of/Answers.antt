use Rattle.bms_map.specs.Maps.{its_ground}
use Rattle.bms_map.proofs.EntryLaws.{shown_next}
use Rattle.bms_map.proofs.sheet.fields_of.Goals as goal

pub loop-rest-preserved : goal.loop-rest-preserved
loop-rest-preserved c =
    shown_next (its_ground c.args.area) c.loop-rest.fields.items c.put_entry.new.fields.items _ c.loop-rest.rest.now c.entry-item.result c.in-len1-up.len_at_least c.entry-item.is
    c.in_ok-put_entry.ensures c.loop-rest.invariant
