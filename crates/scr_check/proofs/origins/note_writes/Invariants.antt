use Rattle.std.proofs.Common.{◌≡◌, ℕ, map, drop, length}
use Rattle.scr_check.specs.Origins.{noted, later_or, last_at, kept_at}
use Rattle.scr_check.proofs.origins.note_writes.Given as goal

abbrev pub invariant-loop-write : goal.invariant-loop-write
invariant-loop-write l =
    record {
      notes : (p : ℕ) → later_or (last_at p (map (noted l.index) (drop l.write-index l.writes))) (kept_at l.slots.items p)
          ≡ later_or (last_at p (map (noted l.index) l.writes)) (kept_at l.fn.slots.items p);
      whole : length l.slots.items ≡ length l.fn.slots.items;
    }
