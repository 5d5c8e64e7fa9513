use Rattle.std.proofs.Common.{◌≡◌, ◌++◌, ◌∷◌, [], ℕ, List, sym, ap, ◌∙◌, subst, append_assoc}
use Rattle.script_screens.specs.declared.lines.Outcome.{Outcome}
use Rattle.cli_scripts.specs.Answers.{AreAnswers, IsAnswer}
use Rattle.cli_scripts.proofs.Telling.{one_more_answer}
use Rattle.cli_scripts.proofs.answer.Answers.add.Goals as goal

after : (gone lines new text : List ℕ) (outcomes longer : List Outcome) (outcome : Outcome) → AreAnswers outcomes (gone ++ lines) → IsAnswer outcome text
    → new ≡ lines ++ text → longer ≡ outcomes ++ outcome ∷ [] → AreAnswers longer (gone ++ new)
after gone lines new text outcomes longer outcome were one is more =
    subst (λ (os : List Outcome). AreAnswers os (gone ++ new)) (sym more)
    (subst (AreAnswers (outcomes ++ outcome ∷ [])) (append_assoc gone lines text ∙ sym (ap (λ z. gone ++ z) is))
    (one_more_answer outcomes outcome (gone ++ lines) text were one))

pub invariant_of-self-2 : goal.invariant_of-self-2
invariant_of-self-2 c =
    after c.self.inside.gone.items c.self.inside.lines.items c.extend_from_slice.new.self.items c.args.text.now c.self.inside.outcomes.items
    c.and-self-inside.result.items c.args.outcome c.self.invariant c.requires c.in_ok-extend_from_slice.ensures.items c.and-self-inside.ensures
