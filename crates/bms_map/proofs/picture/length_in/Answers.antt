use Rattle.std.proofs.Common.{sym, ◌∙◌}
use Rattle.bms_map.proofs.ValueLaws.{picture_next, is_some_list}
use Rattle.bms_map.proofs.picture.length_in.Goals as goal

pub loop-rest-preserved : goal.loop-rest-preserved
loop-rest-preserved c =
    record {
      same = picture_next c.loop-rest.invariant.same.0 c.loop-rest.length c.loop-rest.rest.now c.in-Some.others.now c.in-Some.positions c.in-Some-if_within.more _
          (is_some_list c.loop-rest.rest.now (sym c.is_empty.ensures ∙ c.loop-rest-test.true)) c.in-Some.ensures.found c.in-Some-if_within.ensures.within c.in-Some.ensures.shorter
          c.loop-rest.invariant.same.1 c.loop-rest.invariant.same.2;
      few = c.in-Some-if_within.ensures.most;
    }
