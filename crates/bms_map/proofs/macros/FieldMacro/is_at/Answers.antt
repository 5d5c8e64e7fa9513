use Rattle.std.proofs.Common.{sym, ◌∙◌, subst, ◌<◌}
use Rattle.bms_map.proofs.EntryLaws.{any_next}
use Rattle.bms_map.proofs.macros.FieldMacro.is_at.Goals as goal

pub occurrences-preserved : goal.occurrences-preserved
occurrences-preserved c =
    any_next _ _ c.occurrences.k _ _ (subst (λ n. c.occurrences.k < n) c.count-count.ensures.count c.occurrences-test.true)
    (sym c.stands_at.ensures ∙ c.if-stands_at.false) c.occurrences.invariant
