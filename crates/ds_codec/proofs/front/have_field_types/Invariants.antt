use Rattle.std.proofs.Common.{◌≡◌, length}
use Rattle.ds_codec.specs.Order.{have_types}
use Rattle.ds_codec.proofs.front.have_field_types.Given as goal

abbrev pub invariant-loop-rest : goal.invariant-loop-rest
invariant-loop-rest l = have_types l.rest ≡ have_types l.pairs

abbrev pub decreases-loop-rest : goal.decreases-loop-rest
decreases-loop-rest l = length l.rest
