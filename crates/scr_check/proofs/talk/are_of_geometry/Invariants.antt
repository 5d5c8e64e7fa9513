use Rattle.std.proofs.Common.{◌↔◌, drop}
use Rattle.scr_check.specs.TalkSeen.{rounds_of, AreOfGeometry}
use Rattle.scr_check.proofs.talk.are_of_geometry.Given as goal

abbrev pub invariant-loop-turn : goal.invariant-loop-turn
invariant-loop-turn l = AreOfGeometry l.geometry (rounds_of l.turns) ↔ AreOfGeometry l.geometry (rounds_of (drop l.turn-index l.turns))
