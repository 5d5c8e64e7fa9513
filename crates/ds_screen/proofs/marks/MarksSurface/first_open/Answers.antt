use Rattle.std.proofs.Common.{◌≡◌, ◌<◌, true, length, Some, None, sym, ◌∙◌, ap, subst, arith}
use Rattle.ds_codec.specs.Attribute.{is_protected}
use Rattle.ds_places.specs.Nearest.{IsFirstFrom}
use Rattle.ds_screen.specs.Fields.{ruling_bits}
use Rattle.ds_screen.specs.Marks.{place_of, Marked, IsKept, marked}
use Rattle.ds_screen.proofs.RuledLaws.{back_to_here}
use Rattle.ds_screen.proofs.MarkLaws.{open_before, open_after, open_never, open_more, ruling_mark, held_inside}
use Rattle.ds_screen.proofs.marks.MarksSurface.first_open.Goals as goal
use Rattle.ds_screen.proofs.marks.MarksSurface.first_open.Goals.{else-place-mark-via-then-place-mark+else-not-protected, else-place-mark-via-else-place-mark, else-place-n-via-then-place-n+else-not-protected-2, else-place-n-via-else-place-n}

pub returns-then-not-protected-clause-first : goal.returns-then-not-protected-clause-first
returns-then-not-protected-clause-first c = λ cells shown.
    let same = ap (λ (u : Marked). u.marks) c.self.view_is in
    let found : IsFirstFrom place_of c.args.self.now.marks c.marks.place (Some c.in-Some.mark) = subst (λ l. IsFirstFrom place_of l c.marks.place (Some c.in-Some.mark)) same c.in-Some.ensures in
    open_before c.args.self.now cells c.marks.place c.marks.before c.in-Some.mark shown found (c.marks.invariant.ruled cells shown) c.if-place-mark.true
    (sym c.protected.ensures ∙ c.if-not-protected.true) (c.marks.invariant.misses cells shown)

pub overflow_add-place : goal.overflow_add-place
overflow_add-place c =
    let found : IsFirstFrom place_of c.self.inside.marks.entries c.marks.place (Some c.in-Some.mark) = c.in-Some.ensures in
    let lt = held_inside (marked c.self.inside.marks.entries c.self.inside.size c.self.inside.limit) c.in-Some.mark.at c.in-Some.mark c.self.invariant.0 found.1 in
    omega (arith, lt)

pub marks-preserved : goal.marks-preserved
marks-preserved c =
    let same = ap (λ (u : Marked). u.marks) c.self.view_is in
    let found : IsFirstFrom place_of c.args.self.now.marks c.marks.place (Some c.in-Some.mark) = subst (λ l. IsFirstFrom place_of l c.marks.place (Some c.in-Some.mark)) same c.in-Some.ensures in
    let mark = c.in-Some.mark in
    let size = ap (λ (u : Marked). u.size) c.self.view_is in
    let inside : mark.at < c.args.self.now.size = held_inside c.args.self.now mark.at mark (subst IsKept c.self.view_is c.self.invariant.0) found.1 in
    let shut : c.marks.place < mark.at → is_protected c.marks.before ≡ true = λ lt. elim c.else-place-mark.branch [
      | else-place-mark-via-then-place-mark+else-not-protected w ↦ sym w.protected.ensures ∙ w.if-not-protected.false
      | else-place-mark-via-else-place-mark w ↦ absurd (omega (arith, w.if-place-mark.false, lt))
    ] in
    record {
      inside = omega arith;
      misses = λ cells shown. open_more c.args.self.now cells c.marks.place c.marks.before mark shown found (c.marks.invariant.ruled cells shown) shut (c.marks.invariant.misses cells shown);
      ruled = λ cells shown. sym (ap (ruling_bits cells) (back_to_here (length cells) mark.at) ∙ ruling_mark c.args.self.now cells mark.at mark shown found.1);
    }

pub returns-then-not-protected-2-clause-first : goal.returns-then-not-protected-2-clause-first
returns-then-not-protected-2-clause-first c = λ cells shown.
    let same = ap (λ (u : Marked). u.marks) c.self.view_is in
    let found : IsFirstFrom place_of c.args.self.now.marks c.marks.place None = subst (λ l. IsFirstFrom place_of l c.marks.place None) same c.in_default.ensures in
    open_after c.args.self.now cells c.marks.place c.marks.before shown found (c.marks.invariant.ruled cells shown)
    (omega (arith, c.if-place-n.true, ap (λ (u : Marked). u.size) c.self.view_is))
    (sym c.protected-then-place-n.ensures ∙ c.if-not-protected-2.true) (c.marks.invariant.misses cells shown)

pub returns-else-place-n-clause-first : goal.returns-else-place-n-clause-first
returns-else-place-n-clause-first c = λ cells shown.
    let same = ap (λ (u : Marked). u.marks) c.self.view_is in
    let found : IsFirstFrom place_of c.args.self.now.marks c.marks.place None = subst (λ l. IsFirstFrom place_of l c.marks.place None) same c.in_default.ensures in
    let size = ap (λ (u : Marked). u.size) c.self.view_is in
    let shut : c.marks.place < c.args.self.now.size → is_protected c.marks.before ≡ true = λ lt. elim c.else-place-n.branch [
      | else-place-n-via-then-place-n+else-not-protected-2 w ↦ sym w.protected-then-place-n.ensures ∙ w.if-not-protected-2.false
      | else-place-n-via-else-place-n w ↦ absurd (omega (arith, w.if-place-n.false, size, lt))
    ] in
    open_never c.args.self.now cells c.marks.place c.marks.before shown found (c.marks.invariant.ruled cells shown) shut (c.marks.invariant.misses cells shown)
