use Rattle.std.proofs.Common.{◌≡◌, ◌-◌}
use Rattle.std.specs.List.{range_with_len}
use Rattle.bms_map.specs.Fields.{judge_each, judge_occurrence, judge_all}
use Rattle.bms_map.proofs.groups.judge_all.Given as goal

abbrev pub invariant-occurrences : goal.invariant-occurrences
invariant-occurrences l = judge_each (judge_occurrence l.section l.statement l.operands l.entry) (range_with_len l.k (l.entry.occurs - l.k)) ≡ judge_all l.section l.statement l.operands l.entry
