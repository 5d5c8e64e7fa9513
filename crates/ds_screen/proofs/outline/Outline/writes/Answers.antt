use Rattle.std.proofs.Common.{◌++◌, ◌∙◌, sym, ap, subst, append-nil}
use Rattle.std.proofs.lemmas.Result.{on_ok_weaker}
use Rattle.ds_screen.specs.Writes.{record_writes, most_positions}
use Rattle.ds_screen.specs.Outline.{Outlined, outlined, IsOutlineOf}
use Rattle.ds_screen.proofs.WriteLaws.{outline_writes, outline_writes_none, record_inside, nothing_inside}
use Rattle.ds_screen.proofs.outline.Outline.writes.Goals as goal

pub returns-in_default-clause-added : goal.returns-in_default-clause-added
returns-in_default-clause-added c = λ v is.
    let o : Outlined = outlined c.self.inside.geometry c.self.inside.size c.self.inside.marks c.self.inside.cursor c.self.inside.lock in
    let held : IsOutlineOf o v = subst (λ u. IsOutlineOf u v) (sym c.self.view_is) is in
    sym (append-nil c.args.writes.now.items)
    ∙ ap (λ l. c.args.writes.now.items ++ l)
    (sym (outline_writes_none o v c.args.outbound.now c.command-command.result held c.command-command.ensures (c.in_default.ensures.start v.cells held.marks)))

pub returns-clause-added : goal.returns-clause-added
returns-clause-added c = on_ok_weaker c.add_writes.result (λ added v is.
    let o : Outlined = outlined c.self.inside.geometry c.self.inside.size c.self.inside.marks c.self.inside.cursor c.self.inside.lock in
    let held : IsOutlineOf o v = subst (λ u. IsOutlineOf u v) (sym c.self.view_is) is in
    let prepared = c.in-Some.ensures.start v.cells held.marks in
    added prepared.0 prepared.1
    ∙ ap (λ l. c.args.writes.now.items ++ l)
    (sym (outline_writes o v c.args.outbound.now c.command-command.result c.in-Some.base prepared.0 held c.command-command.ensures prepared.2))) c.add_writes.ensures.added

pub returns-clause-inside : goal.returns-clause-inside
returns-clause-inside c = λ v is. record_inside v c.args.outbound.now.command c.args.outbound.now.orders c.add_writes.ensures.characters is.sound

pub returns-in_default-clause-inside : goal.returns-in_default-clause-inside
returns-in_default-clause-inside c = λ v is.
    let o : Outlined = outlined c.self.inside.geometry c.self.inside.size c.self.inside.marks c.self.inside.cursor c.self.inside.lock in
    let held : IsOutlineOf o v = subst (λ u. IsOutlineOf u v) (sym c.self.view_is) is in
    nothing_inside (most_positions v.geometry) (record_writes v c.args.outbound.now.command c.args.outbound.now.orders)
    (outline_writes_none o v c.args.outbound.now c.command-command.result held c.command-command.ensures (c.in_default.ensures.start v.cells held.marks))
