use Rattle.bms_map.proofs.ValueLaws.{items_next, items_last}
use Rattle.bms_map.proofs.list.items_of.Goals as goal

pub loop-item-preserved : goal.loop-item-preserved
loop-item-preserved c =
    items_next c.loop-item.words.items c.push.new.self.items c.in-Some.item.now c.in-Some.others.now c.loop-item.rest.now _ c.in_ok-push.ensures.items c.in-Some.ensures.cut c.loop-item.invariant

pub returns : goal.returns
returns c = items_last c.loop-item.words.items c.push-2.new.self.items c.loop-item.rest.now _ c.in_ok-push-2.ensures.items c.in_default.ensures.cut c.loop-item.invariant
