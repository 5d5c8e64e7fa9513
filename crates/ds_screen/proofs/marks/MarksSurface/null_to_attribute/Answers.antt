use Rattle.std.proofs.Common.{◌≡◌, length, Some, None, sym, ◌∙◌, ap, subst, arith}
use Rattle.std.specs.Option.{unwrap_or}
use Rattle.ds_places.specs.Nearest.{IsFirstFrom}
use Rattle.ds_screen.specs.Fields.{is_attribute}
use Rattle.ds_screen.specs.Marks.{place_of, Marked}
use Rattle.ds_screen.proofs.TabLaws.{first_hit, first_miss}
use Rattle.ds_screen.proofs.MarkLaws.{first_there, first_never, null_marked}
use Rattle.ds_screen.proofs.marks.MarksSurface.null_to_attribute.Goals as goal

pub returns-in_default-clause-place : goal.returns-in_default-clause-place
returns-in_default-clause-place c = λ cells shown.
    let same = ap (λ (u : Marked). u.marks) c.self.view_is in
    let found : IsFirstFrom place_of c.args.self.now.marks c.args.b None = subst (λ l. IsFirstFrom place_of l c.args.b None) same c.in_default.ensures in
    ap (λ (u : Marked). u.size) c.self.view_is ∙ sym shown.sized
    ∙ sym (ap (λ o. unwrap_or o (length cells)) (first_miss is_attribute cells c.args.b (first_never c.args.self.now cells c.args.b shown found)))

pub returns-in_default-clause-shown : goal.returns-in_default-clause-shown
returns-in_default-clause-shown c = λ cells shown.
    let same = ap (λ (u : Marked). u.marks) c.self.view_is in
    let found : IsFirstFrom place_of c.args.self.now.marks c.args.b None = subst (λ l. IsFirstFrom place_of l c.args.b None) same c.in_default.ensures in
    let size : c.self.inside.size ≡ length cells = ap (λ (u : Marked). u.size) c.self.view_is ∙ sym shown.sized in
    null_marked c.args.self.now cells c.args.b c.self.inside.size shown (λ p from below. first_never c.args.self.now cells c.args.b shown found p from (omega arith))

pub returns-clause-place : goal.returns-clause-place
returns-clause-place c = λ cells shown.
    let same = ap (λ (u : Marked). u.marks) c.self.view_is in
    let found : IsFirstFrom place_of c.args.self.now.marks c.args.b (Some c.in-Some.mark) = subst (λ l. IsFirstFrom place_of l c.args.b (Some c.in-Some.mark)) same c.in-Some.ensures in
    sym (ap (λ o. unwrap_or o (length cells)) (first_hit is_attribute cells c.args.b c.in-Some.mark.at (first_there c.args.self.now cells c.args.b c.in-Some.mark shown found)))

pub returns-clause-shown : goal.returns-clause-shown
returns-clause-shown c = λ cells shown.
    let same = ap (λ (u : Marked). u.marks) c.self.view_is in
    let found : IsFirstFrom place_of c.args.self.now.marks c.args.b (Some c.in-Some.mark) = subst (λ l. IsFirstFrom place_of l c.args.b (Some c.in-Some.mark)) same c.in-Some.ensures in
    null_marked c.args.self.now cells c.args.b c.in-Some.mark.at shown (first_there c.args.self.now cells c.args.b c.in-Some.mark shown found).misses
