use Rattle.std.proofs.Common.{arith}
use Rattle.ds_keys.proofs.SearchLaws.{are_back, none_back}
use Rattle.ds_keys.proofs.moves.characters_back.Goals as goal

pub returns-in-Some-clause-characters : goal.returns-in-Some-clause-characters
returns-in-Some-clause-characters g c =
    are_back c.args.screen.now.cells c.position_count-n.result c.args.at c.args.most c.in-Some.q c.distance.result c.min.result c.position_count-n.ensures.count (omega (arith, c.requires.inside, c.position_count-n.ensures.count)) c.in-Some.ensures.nearest
    c.distance.ensures.steps c.min.ensures

pub returns-in-None-clause-characters : goal.returns-in-None-clause-characters
returns-in-None-clause-characters g c = none_back c.args.screen.now.cells c.args.at c.args.most c.requires.few c.in-None.ensures.nearest
