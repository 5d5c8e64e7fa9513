use Rattle.ds_places.proofs.SearchLaws.{first_found, first_none}
use Rattle.ds_places.proofs.search.first_near.Goals as goal

pub returns-then-index-entries : goal.returns-then-index-entries
returns-then-index-entries g c =
    first_found g.T.Placed.place_of c.args.entries.now c.args.place c.rank_near-index.result c.index-entries-index.result c.requires c.rank_near-index.ensures.parts
    c.if-index-entries.true c.index-entries-index.is

pub returns-else-index-entries : goal.returns-else-index-entries
returns-else-index-entries g c =
    first_none g.T.Placed.place_of c.args.entries.now c.args.place c.rank_near-index.result c.requires c.rank_near-index.ensures.parts c.if-index-entries.false
