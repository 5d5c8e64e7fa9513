use Rattle.std.proofs.Common.{rules, ◌∙◌, ap, subst}
use Rattle.std.proofs.lemmas.Result.{err_from_is_err_and}
use Rattle.ds_screen.specs.Picture.{Picture, IsSound}
use Rattle.ds_screen.specs.Orders.{Writing}
use Rattle.ds_screen.specs.Kept.{Start, picture}
use Rattle.ds_screen.specs.State.{writing}
use Rattle.ds_screen.proofs.ShowLaws.{clear_shows, read_refused, order_refused, write_shows, write_ends, based}
use Rattle.ds_screen.proofs.SoundLaws.{shown_sound}
use Rattle.ds_screen.proofs.screen.Screen.apply.Goals as goal

pub returns-in_default-prepare-clause-refused : goal.returns-in_default-prepare-clause-refused
returns-in_default-prepare-clause-refused g c =
    read_refused c.self.inside.geometry c.self.inside.size (g.C.Cells.content c.self.inside.cells) c.self.inside.cursor c.self.inside.lock c.self.inside.aid
    c.args.self.now c.args.outbound.now c.command-command.result c.self.view_is c.command-command.ensures c.in_default.not-EraseAllUnprotected c.in_default-prepare.ensures.start

pub returns-in-EraseAllUnprotected-clause-shows : goal.returns-in-EraseAllUnprotected-clause-shows
returns-in-EraseAllUnprotected-clause-shows g c =
    clear_shows c.args.self.now c.erase_all_unprotected.new.self c.args.outbound.now c.command-command.result
    c.command-command.ensures c.in-EraseAllUnprotected.is c.erase_all_unprotected.ensures.cleared

pub returns-in_err-end-clause-refused : goal.returns-in_err-end-clause-refused
returns-in_err-end-clause-refused g c =
    let start : Start = record { wcc = c.in-Some.base.wcc; size = c.in-Some.base.size; cells = g.C.Cells.content c.prepare.new.spare; cursor = c.in-Some.base.cursor } in
    let p = err_from_is_err_and c.from_residual.result c.from_residual.ensures.1 in
    let refused = order_refused c.self.inside.geometry c.self.inside.size (g.C.Cells.content c.self.inside.cells) c.self.inside.cursor c.self.inside.lock c.self.inside.aid
    c.args.self.now c.args.outbound.now c.command-command.result start c.in_err-end.field-0.0 c.self.view_is c.command-command.ensures c.in-Some.ensures.start c.in_err-end.ensures.refused in
    rw (p.1, p.2) refused

pub returns-clause-shows : goal.returns-clause-shows
returns-clause-shows g c =
    let start : Start = record { wcc = c.in-Some.base.wcc; size = c.in-Some.base.size; cells = g.C.Cells.content c.prepare.new.spare; cursor = c.in-Some.base.cursor } in
    let w : Writing = writing (g.C.Cells.content c.write_orders.new.cells) c.in_ok-end.end in
    let before : Picture = picture c.self.inside.geometry c.self.inside.size (g.C.Cells.content c.self.inside.cells) c.self.inside.cursor c.self.inside.lock c.self.inside.aid in
    let after : Picture = picture c.self.inside.geometry c.in-Some.base.size (g.C.Cells.content c.swap.new.x) c.in_ok-end.end.cursor c.lock_after-self-inside.result c.aid_after-self-inside.result in
    write_shows c.self.inside.geometry c.self.inside.size (g.C.Cells.content c.self.inside.cells) c.self.inside.cursor c.self.inside.lock c.self.inside.aid
    c.args.self.now c.args.outbound.now c.command-command.result start w after c.self.view_is c.command-command.ensures c.in-Some.ensures.start c.in_ok-end.ensures.done
    (ap (λ x. picture c.self.inside.geometry c.in-Some.base.size (g.C.Cells.content x) c.in_ok-end.end.cursor c.lock_after-self-inside.result c.aid_after-self-inside.result) c.swap.ensures.x_after
    ∙ write_ends start.wcc (based before start) w c.lock_after-self-inside.result c.aid_after-self-inside.result c.lock_after-self-inside.ensures c.aid_after-self-inside.ensures)

pub invariant_of-self-2 : goal.invariant_of-self-2
invariant_of-self-2 g c =
    let after : Picture = picture c.self.inside.geometry c.in-Some.base.size (g.C.Cells.content c.swap.new.x) c.in_ok-end.end.cursor c.lock_after-self-inside.result c.aid_after-self-inside.result in
    let sound : IsSound c.args.self.now = subst IsSound c.self.view_is c.self.invariant.0 in (
      shown_sound c.args.self.now after c.args.outbound.now.command c.args.outbound.now.orders c.in_ok-end.ensures.characters sound (returns-clause-shows g c),
      search rules,
      search rules,
    )
