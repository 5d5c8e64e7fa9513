use Rattle.std.proofs.Common.{◌≡◌, ◌++◌, List, sym, ap, ◌∙◌, subst}
use Rattle.std.proofs.lemmas.List.{append-nil}
use Rattle.cli_scripts.specs.Deeds.{DidSo}
use Rattle.cli_scripts.specs.SentOn.{SentOn}
use Rattle.cli_scripts.proofs.desk.Desk.hand_out_screens.Goals as goal

pub invariant_of-self : goal.invariant_of-self
invariant_of-self c =
    let all : c.self.inside.judged.items ++ c.self.inside.unjudged.items ≡ c.add_screens.new.history.items ++ c.clear.new.self.items =
    sym (c.add_screens.ensures ∙ ap (λ z. c.self.inside.judged.items ++ z) c.deref.ensures.value)
    ∙ sym (append-nil c.add_screens.new.history.items) ∙ sym (ap (λ z. c.add_screens.new.history.items ++ z) c.clear.ensures.items) in
    subst (λ (screens : List SentOn). DidSo c.self.inside.device c.self.inside.deeds.items c.self.inside.heard.items
    (c.self.inside.gone.items ++ c.self.inside.due.items) c.self.inside.session.talk c.self.inside.collects screens) all c.self.invariant
