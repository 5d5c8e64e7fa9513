use Rattle.bms_map.proofs.OverlapLaws.{found_next}
use Rattle.bms_map.proofs.overlap.overlaps_in.Goals as goal

pub fields-preserved : goal.fields-preserved
fields-preserved c =
    found_next _ c.fields.found.items c.push_overlaps.new.found.items _ c.fields.index _ c.fields-test.true c.in_ok-push_overlaps.ensures c.fields.invariant
