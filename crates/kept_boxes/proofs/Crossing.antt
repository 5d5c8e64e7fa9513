-- What a pointer owns may go to another thread where the value may.
use Rattle.std.specs.Prelude.{Option, None, Some}
use Rattle.std.proofs.Crossing.{frees}
use base.Fraction.{full_share}
use base.Shift.{Keyless}
use denote.Param.Send.{IsSend, part_keyless}
use denote.RattleType.{RattleType}
use denote.RawPtr.{Ptr, block_ptr, null_ptr, lies_at}
use Rattle.kept_boxes.specs.Owned.{box_at, heap}

lies : (R : RattleType) → IsSend R → (p : Ptr) (x : R.Denot) → Keyless (lies_at R full_share p x)
lies R s (block_ptr b o) x = part_keyless R s full_share x b o
lies R s null_ptr x = tt

pub box_crosses : (R : RattleType) → IsSend R → (p : Ptr) (v : Option R.Denot) → Keyless (box_at R p v)
box_crosses R s p None = tt
box_crosses R s p (Some x) = (lies R s p x, frees.frees heap _ p)
