use Rattle.std.proofs.Common.{length, map}
use Rattle.tn_session.proofs.TolerantWork.{PressedSoFar}
use Rattle.tn_session.proofs.tolerant_line.press_all.Given as goal

abbrev pub invariant-keys : goal.invariant-keys
invariant-keys g l =
    PressedSoFar (record { talk = l.initial.session.talk; keys = map g.K.Keystroke.strike l.initial.keys.now; inhibited = l.initial.inhibited }) l.initial.session.told l.initial.due.items
    (record { talk = l.session.talk; keys = map g.K.Keystroke.strike l.keys.now; inhibited = l.inhibited }) l.session.told l.due.items

abbrev pub decreases-keys : goal.decreases-keys
decreases-keys g l = length l.keys.now
