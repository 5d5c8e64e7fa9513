use Rattle.std.proofs.Common.{◌-◌, length, arith}
use Rattle.std.proofs.lemmas.Bool.{ltb-true}
use Rattle.ds_places.proofs.SearchLaws.{parts_last, first_none}
use Rattle.ds_places.proofs.search.ends_before.Goals as goal

pub returns : goal.returns
returns g c = λ small q from.
    let place = g.T.Placed.place_of in
    let xs = c.args.entries.now in
    first_none place xs c.args.place (length xs) c.requires
    (parts_last place xs c.args.place (length xs - 1) c.index-entries-count.result c.requires (omega (arith, c.if-count-eq0.false)) c.index-entries-count.is (omega (arith, ltb-true c.place.result c.args.place small, c.place.ensures)))
    (omega arith) q from
