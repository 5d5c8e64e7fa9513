use Rattle.std.proofs.Common.{arith}
use Rattle.ds_places.proofs.SearchLaws.{parts_here}
use Rattle.ds_places.proofs.search.rank_from.Goals as goal

pub returns-then-place-clause-parts : goal.returns-then-place-clause-parts
returns-then-place-clause-parts g c =
    parts_here g.T.Placed.place_of c.args.entries.now c.args.place c.args.start c.index-entries-start.result c.requires.rising c.requires.before
    (omega (arith, c.requires.within, c.if-start-entries.false)) c.index-entries-start.is (omega (arith, c.if-place.true, c.place.ensures))
