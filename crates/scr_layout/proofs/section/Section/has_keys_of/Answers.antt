use Rattle.std.proofs.Common.{not, ap, ◌∙◌}
use Rattle.scr_layout.specs.Section.{number_data}
use Rattle.plain_tables.proofs.Laws.{none_of}
use Rattle.scr_layout.proofs.SectionLaws.{only_all, only_one}
use Rattle.scr_layout.proofs.section.Section.has_keys_of.Goals as goal

pub returns-then-is_none : goal.returns-then-is_none
returns-then-is_none c = λ both.
    only_one c.args.version _ _ _ _ _ _ _ c.in-One.is (ap number_data (none_of _ c.if-is_none.ensures))
    (ap number_data (none_of _ (c.is_none-then-is_none.ensures ∙ ap not both)))

pub returns-in-Two : goal.returns-in-Two
returns-in-Two c = λ both. only_all c.args.version _ _ _ _ _ _ _ c.in-Two.is
