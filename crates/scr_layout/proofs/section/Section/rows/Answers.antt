use Rattle.std.proofs.Common.{Some, None, refl, ap, ◌∙◌, inl, inr, arith}
use Rattle.toml.specs.Data.{integer}
use Rattle.std.specs.Prelude.{pos}
use Rattle.scr_layout.specs.Section.{number_data, members_of}
use Rattle.scr_layout.proofs.ReadLaw.{rows_of-read}
use Rattle.scr_layout.proofs.SectionLaws.{at_count, at_down}
use Rattle.scr_layout.proofs.section.Section.rows.Goals as goal

pub returns-in-None-None : goal.returns-in-None-None
returns-in-None-None c =
    rows_of-read (members_of c.args.self.now) None
    (at_count _ _ _ _ _ _ _ ∙ ap number_data c.in-None-None.is-0, at_down _ _ _ _ _ _ _ ∙ ap number_data c.in-None-None.is-1)

pub returns-in_ok-count-in-Some-None : goal.returns-in_ok-count-in-Some-None
returns-in_ok-count-in-Some-None c =
    let (same, low, high) = c.in_ok-count-in-Some-None.ensures in
    rows_of-read (members_of c.args.self.now) (Some (record { count = c.in_ok-count-in-Some-None.count; down = 1 })) (
      at_count _ _ _ _ _ _ _ ∙ ap number_data c.in-Some-None.is-0 ∙ ap (λ n. Some (integer (pos n))) same,
      inl (at_down _ _ _ _ _ _ _ ∙ ap number_data c.in-Some-None.is-1, refl),
      low,
      high,
      omega arith,
      omega arith,
    )

pub returns-in_ok-down-in-Some-Some : goal.returns-in_ok-down-in-Some-Some
returns-in_ok-down-in-Some-Some c =
    let (same, low, high) = c.in_ok-count-in-Some-Some.ensures in
    let (same_down, low_down, high_down) = c.in_ok-down-in-Some-Some.ensures in
    rows_of-read (members_of c.args.self.now) (Some (record { count = c.in_ok-count-in-Some-Some.count; down = c.in_ok-down-in-Some-Some.down })) (
      at_count _ _ _ _ _ _ _ ∙ ap number_data c.in-Some-Some.is-0 ∙ ap (λ n. Some (integer (pos n))) same,
      inr (at_down _ _ _ _ _ _ _ ∙ ap number_data c.in-Some-Some.is-1 ∙ ap (λ n. Some (integer (pos n))) same_down),
      low,
      high,
      low_down,
      high_down,
    )
