use Rattle.std.proofs.Common.{◌≡◌, ◌+◌, ◌*◌, slice_index, refl, arith}
use Rattle.ds_codec.proofs.DigitPairs.{stored}
use Rattle.ds_codec.proofs.digits.store_joined.Goals as goal

pub bytes-init : goal.bytes-init
bytes-init c k below = absurd (omega (arith, below))

pub bytes-preserved : goal.bytes-preserved
bytes-preserved c =
    let values = c.args.values.now in
    stored (λ k v. v ≡ 16 * slice_index values (2 * k) + slice_index values (2 * k + 1)) c.bytes.bytes c.bytes.i _ (omega arith) c.bytes.invariant refl

pub returns-clause-joined : goal.returns-clause-joined
returns-clause-joined c k inside = c.bytes.invariant k (omega arith)
