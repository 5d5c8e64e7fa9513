use Rattle.ds_keys.specs.Kept.{AreBack}
use Rattle.ds_keys.proofs.moves.characters_back.Given as goal

abbrev pub invariant-near : goal.invariant-near
invariant-near g l = AreBack l.screen.cells l.at l.run
