use Rattle.std.proofs.Common.{ℕ, List, ◌++◌, sym, ◌∙◌, ap, subst}
use Rattle.cli_taps.specs.Taps.{IsTold}
use Rattle.cli_taps.proofs.Pieces.{told_more}
use Rattle.cli_taps.proofs.tap.Tap.read.Goals as goal

pub invariant_of-self : goal.invariant_of-self
invariant_of-self g c = λ hears.
    let listens = c.tell-text.ensures.listens hears in
    subst (λ (told : List ℕ). IsTold c.self.inside.number c.read-gave.new.self c.tell-text.new.listener told) (sym (c.add_bytes.ensures ∙ ap (λ z. c.self.inside.told.items ++ z) c.deref.ensures.value))
    (told_more c.self.inside.number c.args.side c.self.inside.relay c.self.inside.listener c.self.inside.told.items c.read-gave.new.scratch c.in-Bytes.count
    c.read-gave.new.self c.tell-text.result.items c.tell-text.new.listener c.in-Bytes.ensures.reads c.read-gave.ensures.other listens.1
    (c.self.invariant listens.0))
