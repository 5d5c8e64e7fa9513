use Rattle.std.proofs.Common.{◌-◌, arith}
use Rattle.ds_places.proofs.SearchLaws.{small_to, parts_here}
use Rattle.ds_places.proofs.search.rank_near.Goals as goal
use Rattle.ds_places.proofs.search.rank_near.Goals.{else-guess-gt0-via-then-guess-gt0+else-place-2, else-guess-gt0-via-else-guess-gt0}

pub rank_from-requires-clause-before : goal.rank_from-requires-clause-before
rank_from-requires-clause-before g c =
    small_to g.T.Placed.place_of c.args.entries.now c.args.place c.args.guess c.index-entries-guess.result c.requires
    c.if-guess-entries.false c.index-entries-guess.is (omega (arith, c.if-place.true, c.place.ensures))

pub returns-clause-parts : goal.returns-clause-parts
returns-clause-parts g c =
    parts_here g.T.Placed.place_of c.args.entries.now c.args.place c.args.guess c.index-entries-guess.result c.requires
    (λ k d below. elim c.else-guess-gt0.branch [
      | else-guess-gt0-via-then-guess-gt0+else-place-2 w ↦
          small_to g.T.Placed.place_of c.args.entries.now c.args.place (c.args.guess - 1) w.index-entries-guess-then-guess-gt0.result c.requires
          (omega (arith, c.if-guess-entries.false)) w.index-entries-guess-then-guess-gt0.is (omega (arith, w.if-place-2, w.place-then-guess-gt0.ensures)) k d
          (omega (arith, below, w.if-guess-gt0))
      | else-guess-gt0-via-else-guess-gt0 w ↦ absurd (omega (arith, below, w.if-guess-gt0))
    ])
    c.if-guess-entries.false c.index-entries-guess.is (omega (arith, c.if-place.false, c.place.ensures))
