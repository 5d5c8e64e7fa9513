use Rattle.std.proofs.Common.{◌*◌}
use Rattle.ds_codec.specs.Digits.{AreSpelled}
use Rattle.ds_codec.proofs.digits.store_bytes.Given as goal

abbrev pub invariant-parts : goal.invariant-parts
invariant-parts l = AreSpelled l.digits l.bytes (32 * l.part)
