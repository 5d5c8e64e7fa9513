use Rattle.std.proofs.Common.{ℕ, List, ◌++◌, sym, ◌∙◌, ap}
use Rattle.tap_screens.specs.Taps.{Judged}
use Rattle.tap_screens.proofs.Watched.{at_same, takes_asked, takes_at}
use Rattle.tap_screens.proofs.tap.JudgedTap.go_on.Goals as goal

pub invariant_of-self : goal.invariant_of-self
invariant_of-self g c = λ loud.
    let takes = c.print-text.ensures.takes loud in
    let tells = c.go_on-turn.ensures.tells in
    let told = c.deref.ensures.value ∙ tells.1 ∙ ap (λ z. z ++ tells.0) c.new-told.ensures.items in
    at_same c.print-text.new.watch (c.self.inside.tap.told ++ c.deref.result.now) c.go_on-turn.new.self.told
    (c.self.inside.printed.items ++ c.print-text.result.items) c.add_bytes.new.history.items
    (ap (λ z. c.self.inside.tap.told ++ z) told ∙ sym tells.2)
    (sym (c.add_bytes.ensures ∙ ap (λ z. c.self.inside.printed.items ++ z) c.deref-2.ensures.value))
    (takes_at c.self.inside.watch c.deref.result.now c.print-text.result.items c.print-text.new.watch c.self.inside.tap.told
    c.self.inside.printed.items takes.1 (c.self.invariant takes.0))

pub returns-clause-asked : goal.returns-clause-asked
returns-clause-asked g c = λ loud.
    takes_asked c.self.inside.watch c.deref.result.now c.print-text.result.items c.print-text.new.watch (c.print-text.ensures.takes loud).1
    ∙ ap (λ (j : Judged). j.asked) c.self.view_is
