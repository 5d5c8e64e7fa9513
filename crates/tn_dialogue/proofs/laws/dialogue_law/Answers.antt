use Rattle.tn_session.proofs.Pieces.{cuts_agree}
use Rattle.tn_dialogue.proofs.laws.dialogue_law.Goals as goal

pub returns : goal.returns
returns c = cuts_agree
