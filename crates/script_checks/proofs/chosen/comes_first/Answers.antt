use Rattle.std.proofs.Common.{refl, arith}
use Rattle.std.specs.Ordering.{is_le, nat_cmp}
use Rattle.std.proofs.lemmas.Cmp.{same_from_slice_cmp_tested}
use Rattle.std.proofs.lemmas.Bool.Decides.{nat_tests}
use Rattle.script_checks.specs.Named.{comes_first}
use Rattle.script_checks.proofs.chosen.comes_first.Goals as goal

pub returns : goal.returns
returns c =
    same_from_slice_cmp_tested nat_cmp is_le comes_first refl (λ _ _. refl) (λ _ _. refl) (λ x y xs ys o h. grind (arith, nat_tests)) c.args.name.now c.args.other.now c.le.result c.le.ensures
