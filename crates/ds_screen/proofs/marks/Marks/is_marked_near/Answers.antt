use Rattle.std.proofs.Common.{Some, None, ◌∙◌, sym, ap, subst, arith, inl, inr}
use Rattle.std.proofs.lemmas.Bool.{cases_eq, eq-eqb, ne_eqb}
use Rattle.ds_places.specs.Nearest.{IsFirstFrom}
use Rattle.ds_screen.specs.Picture.{cell_at}
use Rattle.ds_screen.specs.Fields.{is_attribute}
use Rattle.ds_screen.specs.Marks.{place_of, Marked}
use Rattle.ds_screen.proofs.MarkLaws.{held_there, none_there}
use Rattle.ds_screen.proofs.marks.Marks.is_marked_near.Goals as goal

pub returns-in-Some : goal.returns-in-Some
returns-in-Some c = λ cells shown.
    let same = ap (λ (u : Marked). u.marks) c.self.view_is in
    let found : IsFirstFrom place_of c.args.self.now.marks c.args.p (Some c.in-Some.mark) =
    subst (λ l. IsFirstFrom place_of l c.args.p (Some c.in-Some.mark)) same c.in-Some.ensures in
    elim (cases_eq c.in-Some.mark.at c.args.p) [
      | inl here ↦
          eq-eqb c.in-Some.mark.at c.args.p here ∙ sym (ap is_attribute (held_there c.args.self.now cells c.in-Some.mark.at c.in-Some.mark shown found.1).0)
          ∙ ap (λ q. is_attribute (cell_at cells q)) here
      | inr apart ↦
          ne_eqb c.in-Some.mark.at c.args.p apart
          ∙ sym (none_there c.args.self.now cells c.args.p shown (found.2 c.args.p (omega arith) (omega (arith, apart, found.0))))
    ]

pub returns-in-None : goal.returns-in-None
returns-in-None c = λ cells shown.
    let same = ap (λ (u : Marked). u.marks) c.self.view_is in
    let none : IsFirstFrom place_of c.args.self.now.marks c.args.p None = subst (λ l. IsFirstFrom place_of l c.args.p None) same c.in-None.ensures in
    sym (none_there c.args.self.now cells c.args.p shown (none c.args.p (omega arith)))
