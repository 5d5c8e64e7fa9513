use Rattle.std.proofs.Common.{◌∙◌, Some, sym, ap, inl}
use Rattle.toml.specs.Data.{string}
use Rattle.scr_layout.specs.Section.{text_data, members_of}
use Rattle.scr_layout.proofs.SectionLaws.{at_kind, kind_said}
use Rattle.scr_layout.proofs.ReadLaw.{kind_of-read}
use Rattle.scr_layout.proofs.section.Section.kind.Goals as goal

pub returns-in-Some : goal.returns-in-Some
returns-in-Some c =
    kind_said (members_of c.args.self.now) c.as_str.result.now c.named_kind.result c.ok.result
    (at_kind _ _ _ _ _ _ _ ∙ ap text_data c.in-Some.is ∙ ap (λ bytes. Some (string bytes)) (sym c.as_str.ensures.value))
    c.named_kind.ensures c.ok.ensures.value

pub returns-in-None : goal.returns-in-None
returns-in-None c = kind_of-read (members_of c.args.self.now) _ (inl (at_kind _ _ _ _ _ _ _ ∙ ap text_data c.in-None.is))
