use Rattle.std.proofs.Common.{◌<◌, arith}
use Rattle.ds_codec.proofs.Aids.{function_is_aid}
use Rattle.ds_codec.proofs.aid.Aid.pf.Goals as goal

pub invariant_of-result : goal.invariant_of-result
invariant_of-result c =
    let lt : c.args.number < 25 = omega arith in
    rw c.from.ensures (function_is_aid c.args.number lt)
