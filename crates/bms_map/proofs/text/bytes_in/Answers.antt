use Rattle.bms_map.proofs.ValueLaws.{bytes_pushed}
use Rattle.bms_map.proofs.text.bytes_in.Goals as goal

pub loop-rest-preserved : goal.loop-rest-preserved
loop-rest-preserved c =
    bytes_pushed c.loop-rest.codes.items c.push.new.self.items c.loop-rest.rest.now _ c.in-Some.byte _ c.in-len2-up.len_at_least c.loop-rest.invariant c.in-Some.ensures
    c.in_ok-push-in-Some.ensures.items
