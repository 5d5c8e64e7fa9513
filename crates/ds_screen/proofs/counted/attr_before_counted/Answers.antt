use Rattle.std.proofs.Common.{refl, sym, subst, length, arith}
use Rattle.ds_places.specs.Places.{IsWithin}
use Rattle.ds_places.specs.Nearest.{IsLastBelow}
use Rattle.ds_screen.specs.Planes.{itself}
use Rattle.ds_screen.proofs.HalvingLaws.{before_last, before_again}
use Rattle.ds_screen.proofs.PlaneLaws.{index_within}
use Rattle.ds_screen.proofs.counted.attr_before_counted.Goals as goal

pub returns-in-Some-clause-nearest : goal.returns-in-Some-clause-nearest
returns-in-Some-clause-nearest c = λ cells listed inside. before_last c.args.probed.now.positions cells c.args.p c.in-Some.q listed inside c.in-Some.ensures.nearest

pub last-requires : goal.last-requires
last-requires c = record { few = omega (arith, c.last_to.ensures.few, c.requires.few) }

pub returns-clause-nearest : goal.returns-clause-nearest
returns-clause-nearest c = λ cells listed inside.
    let kept = (c.in_default.ensures.missed refl).kept in
    before_again c.args.probed.now.positions cells c.args.p c.last.result listed inside c.in_default.ensures.nearest
    (subst (λ l. IsLastBelow itself l (length cells) c.last.result) kept
    (c.last.ensures.last (length cells) (subst (IsWithin itself (length cells)) (sym kept) (index_within c.args.probed.now.positions cells listed))))
