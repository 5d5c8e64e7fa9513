use Rattle.std.proofs.Common.{Some, sym, ap, ◌∙◌}
use Rattle.toml.specs.Data.{string}
use Rattle.scr_layout.specs.Entry.{is_name}
use Rattle.scr_layout.specs.Section.{text_data, members_of}
use Rattle.scr_layout.proofs.ReadLaw.{name_of-read}
use Rattle.scr_layout.proofs.SectionLaws.{at_name}
use Rattle.scr_layout.proofs.section.Section.name.Goals as goal

pub returns-in-Some : goal.returns-in-Some
returns-in-Some c =
    let good = ap is_name (c.as_str-in-Some.ensures.value ∙ sym c.as_str.ensures.value) ∙ sym c.if-is_name.ensures in (
      name_of-read (members_of c.args.self.now) c.as_str-in-Some.result.now
          (at_name _ _ _ _ _ _ _ ∙ ap text_data c.in-Some.is ∙ ap (λ bytes. Some (string bytes)) (sym c.as_str-in-Some.ensures.value))
          good,
      good,
    )
