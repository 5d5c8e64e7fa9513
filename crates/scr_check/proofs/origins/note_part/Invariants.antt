use Rattle.std.proofs.Common.{◌≡◌, ℕ, ◌&&◌, cond, leb, ltb, length, get_or, Option, Some}
use Rattle.scr_check.specs.declared.origins.Origin.{Origin}
use Rattle.scr_check.proofs.origins.note_part.Given as goal

abbrev pub invariant-positions : goal.invariant-positions
invariant-positions l =
    record {
      each : (p : ℕ) (d : Option Origin) → get_or l.slots.items p d ≡ cond (leb l.from p && ltb p l.i) (Some l.origin) (get_or l.fn.slots.items p d);
      whole : length l.slots.items ≡ length l.fn.slots.items;
    }
