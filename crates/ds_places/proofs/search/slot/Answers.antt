use Rattle.std.proofs.Common.{sym, ◌∙◌, arith}
use Rattle.ds_places.proofs.SearchLaws.{slot_here}
use Rattle.ds_places.proofs.search.slot.Goals as goal

pub returns-then-place : goal.returns-then-place
returns-then-place g c =
    slot_here g.T.Placed.place_of c.args.entries.now c.args.place c.rank-index.result c.index-entries-index.result c.rank-index.ensures.parts
    (omega (arith, c.rank-index.ensures.within, c.if-index-entries.false)) c.index-entries-index.is (sym c.place.ensures ∙ c.if-place.true)
