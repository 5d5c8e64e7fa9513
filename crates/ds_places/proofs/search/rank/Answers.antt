use Rattle.std.proofs.Common.{rules, ltb, ◌≡◌, ◌-◌, length, true, false, arith}
use Rattle.std.specs.List.Sorted.{IsPartitionPoint}
use Rattle.std.proofs.lemmas.Bool.{ltb-true, ltb-false}
use Rattle.std.proofs.lemmas.List.Sorted.{IsPartitionedBy-ltb, IsPartitionPoint-from_clause}
use Rattle.ds_places.proofs.ListLaws.{never_falls}
use Rattle.ds_places.proofs.SearchLaws.{parts_last}
use Rattle.ds_places.proofs.search.rank.Goals as goal

pub returns-then-place-clause-parts : goal.returns-then-place-clause-parts
returns-then-place-clause-parts g c =
    parts_last g.T.Placed.place_of c.args.entries.now c.args.place (length c.args.entries.now - 1) c.index-entries-count.result c.requires
    (omega (arith, c.if-count-eq0.false)) c.index-entries-count.is (omega (arith, c.if-place.true, c.place.ensures))

pub returns-clause-parts : goal.returns-clause-parts
returns-clause-parts g c =
    let parts : IsPartitionPoint (λ y. ltb (g.T.Placed.place_of y) c.args.place ≡ true) (λ y. ltb (g.T.Placed.place_of y) c.args.place ≡ false) c.args.entries.now c.partition_point.result =
    IsPartitionPoint-from_clause (λ y. ltb (g.T.Placed.place_of y) c.args.place) c.args.entries.now c.partition_point.result c.partition_point.ensures.partitioned
    (IsPartitionedBy-ltb g.T.Placed.place_of c.args.entries.now c.args.place (never_falls g.T.Placed.place_of 0 c.args.entries.now c.requires))
    (λ a r f' k. search rules) in (
      λ k d from lt. ltb-true _ _ (parts.0 k d from lt),
      λ k d from lt. ltb-false _ _ (parts.1 k d from lt),
    )
