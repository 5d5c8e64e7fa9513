use Rattle.std.proofs.Common.{◌≡◌, ◌++◌, ◌∷◌, [], refl, sym, ap, ◌∙◌, append_assoc, subst, List}
use Rattle.cli_scripts.specs.declared.deed.Deed.{Deed}
use Rattle.cli_scripts.specs.declared.deed.Deed.TheVariants.{Pressed}
use Rattle.cli_scripts.specs.Deeds.{DidSo}
use Rattle.cli_scripts.specs.SentOn.{SentOn, sent_on, collected}
use Rattle.cli_scripts.proofs.DeskSteps.{silent_step}
use Rattle.cli_scripts.proofs.desk.Desk.press.Goals as goal

behind : (judged screens new more : List SentOn) → new ≡ screens ++ more → judged ++ new ≡ (judged ++ screens) ++ more
behind judged screens new more is = ap (λ z. judged ++ z) is ∙ sym (append_assoc judged screens more)

-- no screen was kept, and nothing was done
pub invariant_of-self : goal.invariant_of-self
invariant_of-self c =
    subst (λ (screens : List SentOn). DidSo c.self.inside.device c.self.inside.deeds.items c.self.inside.heard.items
    (c.self.inside.gone.items ++ c.self.inside.due.items) c.self.inside.session.talk c.self.inside.collects (c.self.inside.judged.items ++ screens))
    (sym c.in_err-collect.ensures.same) c.self.invariant

pub invariant_of-self-2 : goal.invariant_of-self-2
invariant_of-self-2 c =
    let told = c.press-pressed.ensures.pressed in
    let here = sent_on c.args.key.now c.self.inside.session.talk in
    silent_step c.self.inside.device c.self.inside.deeds.items c.and-self-inside.result.items (Pressed c.args.key.now) c.self.inside.heard.items
    c.self.inside.gone.items c.self.inside.due.items c.press-pressed.new.due.items told.0 c.self.inside.collects
    (c.self.inside.judged.items ++ c.self.inside.unjudged.items) (c.self.inside.judged.items ++ c.collect.new.screens.items) here
    c.self.inside.session.talk c.press-pressed.new.self.talk
    (c.and-self-inside.ensures ∙ ap (λ (d : Deed). c.self.inside.deeds.items ++ d ∷ []) c.deed_of-deed.ensures) told.1
    (behind c.self.inside.judged.items c.self.inside.unjudged.items c.collect.new.screens.items (collected c.self.inside.collects here) c.in_ok-collect.ensures.grown)
    c.self.invariant (refl, refl, (c.press-pressed.result, told.2))
