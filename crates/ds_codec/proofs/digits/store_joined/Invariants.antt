use Rattle.ds_codec.specs.Digits.{AreJoined}
use Rattle.ds_codec.proofs.digits.store_joined.Given as goal

abbrev pub invariant-bytes : goal.invariant-bytes
invariant-bytes l = AreJoined l.values l.bytes l.i
