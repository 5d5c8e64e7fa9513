use Rattle.std.proofs.Common.{length}
use Rattle.tn_dialogue.proofs.session.take_piece.Given as goal
use Rattle.tn_dialogue.specs.Dialogue.{dialogue_act}
use Rattle.tn_session.proofs.RunStates.{PieceSoFar}

abbrev pub invariant-events : goal.invariant-events
invariant-events l =
    PieceSoFar dialogue_act l.initial.deframer.content l.initial.machine l.initial.due.items l.initial.rest.now l.deframer l.machine l.rest.now l.due.items

abbrev pub decreases-events : goal.decreases-events
decreases-events l = length l.rest.now
