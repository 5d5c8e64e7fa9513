use Rattle.std.proofs.Common.{subst, ◌<◌}
use Rattle.bms_map.proofs.EntryLaws.{each_next}
use Rattle.bms_map.proofs.groups.judge_all.Goals as goal

pub occurrences-preserved : goal.occurrences-preserved
occurrences-preserved c =
    each_next _ c.occurrences.k _ _ _ (subst (λ n. c.occurrences.k < n) c.count-count.ensures.count c.occurrences-test.true) c.in_ok-judge_occurrence.ensures c.occurrences.invariant
