-- What a pointer owns.
use Rattle.std.specs.Prelude.{Option, Some, None}
use Rattle.std.specs.Box.Ownership.{box_owns}
use Rattle.std.specs.Global.{Global}
use Rattle.std.specs.contracts.impls.GlobalAllocator.TheImpl.{ghosts}
use base.Fml.{Fml, feq}
use denote.RattleType.{RattleType}
use denote.RawPtr.{Ptr, null_ptr}

-- the heap of the C library, which a handle to it only names
abbrev pub heap : Global
heap = record { memory = record { seal = tt } }

-- a null pointer owns nothing; another one the value behind it, and the right to free its block
abbrev pub box_at : (R : RattleType) → Ptr → Option R.Denot → Fml
box_at R p None = feq Ptr p null_ptr
box_at R p (Some v) = box_owns (ghosts.dealloc_token heap) R p v
