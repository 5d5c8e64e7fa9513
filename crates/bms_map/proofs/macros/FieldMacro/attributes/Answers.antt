use Rattle.std.proofs.Common.{sym, ◌∙◌}
use Rattle.bms_map.specs.Maps.{its_ground}
use Rattle.bms_map.proofs.EntryLaws.{attributes_count}
use Rattle.bms_map.proofs.macros.FieldMacro.attributes.Goals as goal

pub returns-else-is_part-clause-count : goal.returns-else-is_part-clause-count
returns-else-is_part-clause-count c =
    c.count.ensures.count ∙ attributes_count (its_ground c.args.area) c.args.self.now (sym c.is_part.ensures ∙ c.if-is_part.false)
