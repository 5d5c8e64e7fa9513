use Rattle.std.proofs.Common.{◌≡◌, sym, ◌∙◌, ap, subst, arith}
use Rattle.std.proofs.lemmas.Result.{err_from_is_err_and}
use Rattle.ds_screen.specs.Records.{told_of}
use Rattle.ds_screen.specs.Kept.{HasRoom}
use Rattle.ds_screen.specs.Marks.{Marked, IsMarked}
use Rattle.ds_screen.specs.Outline.{Outlined, outlined, IsOutlineOf, OutlinesRefused}
use Rattle.ds_screen.proofs.OutlineLaws.{clears, outlines_write, outlines_refused, outlines_read}
use Rattle.ds_screen.proofs.outline.Outline.apply.Goals as goal

pub returns-in-EraseAllUnprotected-clause-shows : goal.returns-in-EraseAllUnprotected-clause-shows
returns-in-EraseAllUnprotected-clause-shows c =
    clears c.args.self.now c.erase_all_unprotected.new.self c.args.outbound.now c.command-command.result c.command-command.ensures c.in-EraseAllUnprotected.is
    c.erase_all_unprotected.ensures.shown

pub returns-in_default-prepare_on-clause-refused : goal.returns-in_default-prepare_on-clause-refused
returns-in_default-prepare_on-clause-refused c = λ v is.
    let o : Outlined = outlined c.self.inside.geometry c.self.inside.size c.self.inside.marks c.self.inside.cursor c.self.inside.lock in
    let held : IsOutlineOf o v = subst (λ u. IsOutlineOf u v) (sym c.self.view_is) is in
    outlines_read o v c.args.outbound.now c.command-command.result held c.command-command.ensures c.in_default.not-EraseAllUnprotected
    (c.in_default-prepare_on.ensures.start v.cells held.marks)

pub returns-in_err-end-clause-refused : goal.returns-in_err-end-clause-refused
returns-in_err-end-clause-refused c =
    let p = err_from_is_err_and c.from_residual.result c.from_residual.ensures.1 in
    let refused : OutlinesRefused c.args.self.now c.args.outbound.now c.in_err-end.field-0.0 = λ v is.
    let o : Outlined = outlined c.self.inside.geometry c.self.inside.size c.self.inside.marks c.self.inside.cursor c.self.inside.lock in
    let held : IsOutlineOf o v = subst (λ u. IsOutlineOf u v) (sym c.self.view_is) is in
    let prepared = c.in-Some.ensures.start v.cells held.marks in
    outlines_refused o v c.args.outbound.now c.command-command.result c.in-Some.base prepared.0 c.in_err-end.field-0.0 held c.command-command.ensures prepared.2
    (c.in_err-end.ensures.refused prepared.0 prepared.1) in
    rw (p.1, p.2) refused

pub returns-clause-shows : goal.returns-clause-shows
returns-clause-shows c = λ v is.
    let o : Outlined = outlined c.self.inside.geometry c.self.inside.size c.self.inside.marks c.self.inside.cursor c.self.inside.lock in
    let held : IsOutlineOf o v = subst (λ u. IsOutlineOf u v) (sym c.self.view_is) is in
    let prepared = c.in-Some.ensures.start v.cells held.marks in
    let final = c.in_ok-end.ensures.done prepared.0 prepared.1 in
    outlines_write o v c.args.outbound.now c.command-command.result c.in-Some.base prepared.0 final.0 c.in_ok-end.end c.swap.new.x c.lock_after-self-inside.result
    held c.command-command.ensures c.in_ok-end.ensures.characters prepared.2 final.2
    (subst (λ (m : Marked). IsMarked m final.0) (sym c.swap.ensures.x_after) final.1) c.lock_after-self-inside.ensures

pub invariant_of-self-2 : goal.invariant_of-self-2
invariant_of-self-2 c =
    let x : c.swap.new.x.room ≡ c.self.inside.spare.room = ap (λ (m : Marked). m.room) c.swap.ensures.x_after ∙ c.in_ok-end.ensures.room ∙ c.in-Some.ensures.room in
    let y : c.swap.new.y.room ≡ c.self.inside.marks.room = ap (λ (m : Marked). m.room) c.swap.ensures.y_after in
    record {
      whole = ap (λ (m : Marked). m.size) c.swap.ensures.x_after ∙ c.in_ok-end.ensures.whole ∙ c.in-Some.ensures.whole;
      cursor = omega (arith, c.in_ok-end.ensures.inside.cursor, c.in-Some.ensures.whole);
      fits = omega (arith, c.in-Some.ensures.fits c.self.inside.spare.room c.self.invariant.spare_fits c.self.invariant.spare_room, x);
      spare_fits = omega (arith, c.in-Some.ensures.fits c.self.inside.marks.room c.self.invariant.fits c.self.invariant.room, y);
      room = subst (HasRoom c.self.inside.geometry) (sym x) c.self.invariant.spare_room;
      spare_room = subst (HasRoom c.self.inside.geometry) (sym y) c.self.invariant.room;
    }

pub returns-clause-told : goal.returns-clause-told
returns-clause-told c = c.told.ensures ∙ sym c.in-Some.ensures.told ∙ ap told_of c.command-command.ensures
