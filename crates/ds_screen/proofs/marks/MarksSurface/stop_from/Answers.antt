use Rattle.std.proofs.Common.{◌≡◌, not, length, Some, None, sym, ◌∙◌, ap, subst, arith}
use Rattle.ds_places.specs.Nearest.{IsFirstFrom}
use Rattle.ds_screen.specs.Ring.{ring_on}
use Rattle.ds_screen.specs.Orders.{behind}
use Rattle.ds_screen.specs.Marks.{place_of, Marked, marked}
use Rattle.ds_screen.proofs.MarkLaws.{free_found, free_never, held_inside}
use Rattle.ds_screen.proofs.marks.MarksSurface.stop_from.Goals as goal

pub returns-then-not-protected-clause-stop : goal.returns-then-not-protected-clause-stop
returns-then-not-protected-clause-stop c = λ cells shown.
    let same = ap (λ (u : Marked). u.marks) c.self.view_is in
    let found : IsFirstFrom place_of c.args.self.now.marks c.marks.at (Some c.in-Some.mark) = subst (λ l. IsFirstFrom place_of l c.marks.at (Some c.in-Some.mark)) same c.in-Some.ensures in
    let size : c.self.inside.size ≡ length cells = ap (λ (u : Marked). u.size) c.self.view_is ∙ sym shown.sized in
    c.next.ensures.on ∙ ap (λ n. ring_on n c.in-Some.mark.at 1) size
    ∙ sym (ap (behind (length cells)) (free_found c.args.self.now cells c.args.from c.marks.at c.in-Some.mark shown c.marks.invariant.order found (ap not (sym c.protected.ensures ∙ c.if-not-protected.true)) (c.marks.invariant.misses cells shown)))

pub overflow_add-at : goal.overflow_add-at
overflow_add-at c =
    let found : IsFirstFrom place_of c.self.inside.marks.entries c.marks.at (Some c.in-Some.mark) = c.in-Some.ensures in
    let lt = held_inside (marked c.self.inside.marks.entries c.self.inside.size c.self.inside.limit) c.in-Some.mark.at c.in-Some.mark c.self.invariant.0 found.1 in
    omega (arith, lt)

pub returns-clause-stop : goal.returns-clause-stop
returns-clause-stop c = λ cells shown.
    let same = ap (λ (u : Marked). u.marks) c.self.view_is in
    let found : IsFirstFrom place_of c.args.self.now.marks c.marks.at None = subst (λ l. IsFirstFrom place_of l c.marks.at None) same c.in_default.ensures in
    sym (ap (behind (length cells)) (free_never c.args.self.now cells c.args.from c.marks.at shown found (c.marks.invariant.misses cells shown)))
