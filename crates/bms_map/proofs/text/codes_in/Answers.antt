use Rattle.bms_map.proofs.TextLaws.{string_pushed}
use Rattle.bms_map.proofs.text.codes_in.Goals as goal

pub loop-rest-preserved : goal.loop-rest-preserved
loop-rest-preserved c =
    string_pushed c.loop-rest.codes.items c.push.new.self.items c.args.inner.now c.loop-rest.rest.now c.in-Some.after.now _ c.in-Some-code_of.code
    c.in-len1-up.len_at_least c.loop-rest.invariant c.in-Some.ensures.after c.in-Some-code_of.ensures c.in_ok-push.ensures.items
