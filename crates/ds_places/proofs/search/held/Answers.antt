use Rattle.ds_places.proofs.SearchLaws.{held_here, held_none}
use Rattle.ds_places.proofs.search.held.Goals as goal

pub returns-in-Ok : goal.returns-in-Ok
returns-in-Ok g c =
    held_here g.T.Placed.place_of c.args.entries.now c.args.place c.in-Ok.index c.index-entries-index.result c.requires c.in-Ok.ensures c.index-entries-index.is

pub returns-in-Err : goal.returns-in-Err
returns-in-Err g c = held_none g.T.Placed.place_of c.args.entries.now c.args.place c.in-Err.field-0 c.requires c.in-Err.ensures
