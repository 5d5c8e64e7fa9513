use Rattle.std.proofs.Common.{Ok, sym, subst}
use Rattle.tn_dialogue.specs.Dialogue.{dialogue_act}
use Rattle.tn_dialogue.specs.DialogueTalk.{TakesPiece}
use Rattle.tn_dialogue.specs.SessionView.{IsListening}
use Rattle.tn_session.proofs.PieceSteps.{still_listens}
use Rattle.tn_dialogue.proofs.dialogue.DialogueSession.take.Goals as goal

pub invariant_of-self : goal.invariant_of-self
invariant_of-self c =
    subst (λ end. IsListening end c.take_piece.new.deframer) (sym c.in-None.is)
    (still_listens dialogue_act c.take_piece.new.deframer c.in-Ok-Goes.ensures.fresh
    (subst (λ turn. TakesPiece dialogue_act c.self.inside.deframer.content c.self.inside.machine c.args.piece.now (Ok turn) c.in-Ok-Goes.ensures.taken.0
    c.take_piece.new.machine c.take_piece.new.deframer.content c.take_piece.new.rest.now) c.in-Ok-Goes.field-0-is c.in-Ok-Goes.ensures.taken.2))
