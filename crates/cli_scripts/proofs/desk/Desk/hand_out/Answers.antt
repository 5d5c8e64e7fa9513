use Rattle.std.proofs.Common.{◌≡◌, ◌++◌, ℕ, List, sym, ap, ◌∙◌, subst}
use Rattle.std.proofs.lemmas.List.{append-nil}
use Rattle.cli_scripts.specs.Deeds.{DidSo}
use Rattle.cli_scripts.proofs.desk.Desk.hand_out.Goals as goal

pub invariant_of-self : goal.invariant_of-self
invariant_of-self c =
    let all : c.self.inside.gone.items ++ c.self.inside.due.items ≡ c.add_bytes.new.history.items ++ c.clear.new.self.items =
    sym (c.add_bytes.ensures ∙ ap (λ z. c.self.inside.gone.items ++ z) c.deref.ensures.value)
    ∙ sym (append-nil c.add_bytes.new.history.items) ∙ sym (ap (λ z. c.add_bytes.new.history.items ++ z) c.clear.ensures.items) in
    subst (λ (given : List ℕ). DidSo c.self.inside.device c.self.inside.deeds.items c.self.inside.heard.items given
    c.self.inside.session.talk c.self.inside.collects (c.self.inside.judged.items ++ c.self.inside.unjudged.items)) all c.self.invariant
