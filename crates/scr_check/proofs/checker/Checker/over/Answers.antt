use Rattle.std.proofs.Common.{refl}
use Rattle.ds_screen.specs.Records.{new_picture}
use Rattle.scr_check.proofs.checker.Checker.over.Goals as goal

pub invariant_of-result : goal.invariant_of-result
invariant_of-result c = rw c.new.ensures (refl, (new_picture c.args.layout.now.geometry, refl, c.over.ensures (new_picture c.args.layout.now.geometry) c.requires))
