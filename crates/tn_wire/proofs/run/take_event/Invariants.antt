use Rattle.std.proofs.Common.{ℕ, List, length}
use Rattle.std.specs.Vec.{vec_capacity}
use Rattle.tn_wire.specs.Open.{content_of, HasRoom, GoesOn}
use Rattle.tn_wire.proofs.run.take_event.Given as goal

-- the bytes taken so far tell nothing
pub record SoFar (old before kept : List ℕ) (capacity : ℕ) (parameters content after : List ℕ) : Type 0 where
  pub goes_on : GoesOn old before content after
  pub room : HasRoom kept capacity parameters

abbrev pub invariant-bytes : goal.invariant-bytes
invariant-bytes l =
    SoFar (content_of l.fn.kept.items l.fn.parameters.items l.fn.state) l.fn.input.now l.kept.items (vec_capacity l.kept) l.parameters.items
    (content_of l.kept.items l.parameters.items l.state) l.input.now

abbrev pub decreases-bytes : goal.decreases-bytes
decreases-bytes l = length l.input.now
