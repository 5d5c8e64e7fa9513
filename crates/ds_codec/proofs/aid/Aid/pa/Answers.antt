use Rattle.std.proofs.Common.{◌<◌, arith}
use Rattle.ds_codec.proofs.Aids.{access_is_aid}
use Rattle.ds_codec.proofs.aid.Aid.pa.Goals as goal

pub invariant_of-result : goal.invariant_of-result
invariant_of-result c =
    let lt : c.args.number < 4 = omega arith in
    rw c.from.ensures (access_is_aid c.args.number lt)
