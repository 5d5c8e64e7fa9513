use Rattle.std.proofs.Common.{◌∙◌, ap, subst, ◌<◌}
use Rattle.bms_map.specs.Entries.{placed}
use Rattle.bms_map.proofs.EntryLaws.{placed_next}
use Rattle.bms_map.proofs.sheet.put_each.Goals as goal

pub occurrences-preserved : goal.occurrences-preserved
occurrences-preserved c =
    placed_next _ c.occurrences.fields.items c.put.new.fields.items _ c.occurrences.k _ (subst (λ n. c.occurrences.k < n) c.count-count.ensures.count c.occurrences-test.true)
    (c.in_ok-put.ensures ∙ ap (λ f. placed f c.occurrences.fields.items) c.in_ok-field.ensures) c.occurrences.invariant
