use Rattle.std.proofs.Common.{ℕ, List, [], sym, subst}
use Rattle.tn_wire.specs.Stream.{Tells}
use Rattle.tn_wire.proofs.Streams.{tells_nothing}
use Rattle.tn_dialogue.proofs.dialogue.DialogueSession.new.Goals as goal

pub invariant_of-result : goal.invariant_of-result
invariant_of-result c =
    (c.in_ok-new.ensures.fault, subst (λ (left : List ℕ). Tells left [] left) (sym c.in_ok-new.ensures.content) tells_nothing)
