use Rattle.std.proofs.Common.{◌≡◌, length}
use Rattle.ds_codec.specs.Order.{or_else, last_attribute}
use Rattle.ds_codec.proofs.front.last_attr.Given as goal

abbrev pub invariant-loop-rest : goal.invariant-loop-rest
invariant-loop-rest l = or_else (last_attribute l.rest) l.last ≡ last_attribute l.pairs

abbrev pub decreases-loop-rest : goal.decreases-loop-rest
decreases-loop-rest l = length l.rest
